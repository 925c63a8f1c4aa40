-- Changes leave a state with its lists of bytes.
use Rattle.std.proofs.Common.{ℕ, ◌-◌, ◌*◌, ◌/◌, ◌%◌, ◌<◌, ◌≤◌, Bool, true, false, List, arith}
use Rattle.std.specs.Prelude.{slice_set}
use Rattle.std.specs.Int.Bits.{and_lt}
use Rattle.std.proofs.lemmas.Nat.{or_lt}
use Rattle.std.proofs.lemmas.Grind.{common_steps}
use Rattle.tms_defs.specs.declared.flags.Flags.{Flags}
use Rattle.tms_defs.specs.Words.{high, low}
use Rattle.tms_defs.specs.Bytes.{HoldsBytes}
use Rattle.tms_defs.specs.Status.{bit_of}
use Rattle.tms_defs.specs.Flags.{Width, Byte, Word, modulus, sum_of, difference_of, negation_of}
use Rattle.tms_defs.specs.Logic.{complement_of}
use Rattle.tms_defs.proofs.WordLaws.{join-fits, high-fits, low-fits}
use Rattle.gpl_defs.specs.declared.instruction.Space.{Space}
use Rattle.gpl_defs.specs.declared.instruction.Space.TheVariants.{Cpu, Vdp}
use Rattle.gpl_step_defs.specs.declared.cells.TheConstants.{VISIBLE_CELLS, STATUS}
use Rattle.gpl_step_defs.specs.State.{GplState, IsState}
use Rattle.gpl_step_defs.specs.Place.{Place, byte_in, byte_at, further, value_at}
use Rattle.gpl_step_defs.specs.Changes.{Changes, with_pc, with_cell, with_video, with_register, with_byte_in, with_byte, with_value, with_double, status_of}
use Rattle.gpl_step_defs.specs.Changes.{with_status, status_byte, with_flags, with_bit, with_condition, with_overflow}

abbrev pub Kept : Changes → Type 0
Kept c = IsState c.state

-- ---- one byte

pub set_keeps : (count : ℕ) (xs : List ℕ) (at byte : ℕ) → HoldsBytes count xs → byte < 256 → HoldsBytes count (slice_set xs at byte)
set_keeps count xs at byte h lt =
    record { size = grind (arith, common_steps, h.size); fits = λ k. let old = h.fits k in grind (arith, common_steps) }

pub with_cell_keeps : (offset byte : ℕ) (c : Changes) → byte < 256 → Kept c → Kept (with_cell offset byte c)
with_cell_keeps offset byte c lt h =
    record { cells = set_keeps VISIBLE_CELLS c.state.cells offset byte h.cells lt; vdp = h.vdp; registers = h.registers; pc = h.pc; image = h.image }

with_video_keeps : (address byte : ℕ) (c : Changes) → byte < 256 → Kept c → Kept (with_video address byte c)
with_video_keeps address byte c lt h =
    record { cells = h.cells; vdp = set_keeps 16384 c.state.vdp (address % 16384) byte h.vdp lt; registers = h.registers; pc = h.pc; image = h.image }

pub with_register_keeps : (number byte : ℕ) (c : Changes) → byte < 256 → Kept c → Kept (with_register number byte c)
with_register_keeps number byte c lt h =
    record { cells = h.cells; vdp = h.vdp; registers = set_keeps 8 c.state.registers number byte h.registers lt; pc = h.pc; image = h.image }

pub with_pc_keeps : (address : ℕ) (c : Changes) → address < 65536 → Kept c → Kept (with_pc address c)
with_pc_keeps address c lt h = record { cells = h.cells; vdp = h.vdp; registers = h.registers; pc = lt; image = h.image }

pub with_status_keeps : (byte : ℕ) (c : Changes) → byte < 256 → Kept c → Kept (with_status byte c)
with_status_keeps byte c lt h =
    record { cells = set_keeps VISIBLE_CELLS c.state.cells STATUS byte h.cells lt; vdp = h.vdp; registers = h.registers; pc = h.pc; image = h.image }

pub with_byte_keeps : (p : Place) (byte : ℕ) (c : Changes) → byte < 256 → Kept c → Kept (with_byte p byte c)
with_byte_keeps p byte c lt h = by p.space
  where
    by : (space : Space) → Kept (with_byte_in space p.address byte c)
    by Cpu = with_cell_keeps p.address byte c lt h
    by Vdp = with_video_keeps p.address byte c lt h

-- ---- numbers

pub byte_fits : (s : GplState) (p : Place) → IsState s → byte_at s p < 256
byte_fits s p h = by p.space
  where
    by : (space : Space) → byte_in space s p.address < 256
    by Cpu = h.cells.fits p.address
    by Vdp = h.vdp.fits (p.address % 16384)

pub value_fits : (s : GplState) (width : Width) (p : Place) → IsState s → value_at s width p < modulus width
value_fits s Byte p h = byte_fits s p h
value_fits s Word p h = join-fits (byte_at s p) (byte_at s (further 1 p)) (byte_fits s p h) (byte_fits s (further 1 p) h)

pub with_value_keeps : (width : Width) (p : Place) (number : ℕ) (c : Changes) → number < modulus width → Kept c → Kept (with_value width p number c)
with_value_keeps Byte p number c lt h = with_byte_keeps p number c lt h
with_value_keeps Word p number c lt h =
    with_byte_keeps (further 1 p) (low number) (with_byte p (high number) c) (low-fits number) (with_byte_keeps p (high number) c (high-fits number lt) h)

pub with_double_keeps : (width : Width) (p : Place) (number : ℕ) (c : Changes) → number < modulus width * modulus width → Kept c → Kept (with_double width p number c)
with_double_keeps Byte p number c lt h = with_value_keeps Word p number c lt h
with_double_keeps Word p number c lt h =
    let more : number / 65536 < 65536 = omega arith in
    let less : number % 65536 < 65536 = omega arith in
    with_value_keeps Word (further 2 p) (number % 65536) (with_value Word p (number / 65536) c) less (with_value_keeps Word p (number / 65536) c more h)

-- ---- the status

bit_le : (b : Bool) (weight : ℕ) → bit_of b weight ≤ weight
bit_le true weight = omega arith
bit_le false weight = omega arith

status_fits : (flags : Flags) → status_byte flags < 256
status_fits flags =
    let a = bit_le flags.lgt 0x80 in
    let b = bit_le flags.agt 0x40 in
    let c = bit_le flags.eq 0x20 in
    let d = bit_le flags.c 0x10 in
    let e = bit_le flags.ov 0x08 in
    omega (arith, a, b, c, d, e)

pub with_flags_keeps : (flags : Flags) (c : Changes) → Kept c → Kept (with_flags flags c)
with_flags_keeps flags c h = with_status_keeps (status_byte flags) c (status_fits flags) h

with_bit_keeps : (bit : ℕ) (holds : Bool) (c : Changes) → bit < 256 → Kept c → Kept (with_bit bit holds c)
with_bit_keeps bit true c lt h = with_status_keeps _ c (or_lt 8 (status_of c.state) bit (h.cells.fits STATUS) lt) h
with_bit_keeps bit false c lt h =
    let other : 256 - 1 - bit < 256 = omega arith in
    with_status_keeps _ c (and_lt 8 (status_of c.state) (256 - 1 - bit) (h.cells.fits STATUS) other) h

pub with_condition_keeps : (holds : Bool) (c : Changes) → Kept c → Kept (with_condition holds c)
with_condition_keeps holds c h = with_bit_keeps 0x20 holds c (omega arith) h

pub with_overflow_keeps : (holds : Bool) (c : Changes) → Kept c → Kept (with_overflow holds c)
with_overflow_keeps holds c h = with_bit_keeps 0x08 holds c (omega arith) h

-- ---- results

pub sum_fits : (width : Width) (x y : ℕ) → sum_of width x y < modulus width
sum_fits Byte x y = omega arith
sum_fits Word x y = omega arith

pub difference_fits : (width : Width) (x y : ℕ) → difference_of width x y < modulus width
difference_fits Byte x y = omega arith
difference_fits Word x y = omega arith

pub negation_fits : (width : Width) (x : ℕ) → negation_of width x < modulus width
negation_fits Byte x = omega arith
negation_fits Word x = omega arith

pub complement_fits : (width : Width) (x : ℕ) → complement_of width x < modulus width
complement_fits Byte x = omega arith
complement_fits Word x = omega arith
