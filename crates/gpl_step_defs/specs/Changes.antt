-- What an instruction changes.
use Rattle.std.specs.Prelude.{ℕ, ◌+◌, ◌*◌, ◌/◌, ◌%◌, ◌==◌, Bool, true, false, ◌||◌, slice_index, slice_set}
use Rattle.tms_defs.specs.declared.flags.Flags.{Flags}
use Rattle.tms_defs.specs.Words.{high, low}
use Rattle.tms_defs.specs.Flags.{Width, Byte, Word}
use Rattle.tms_defs.specs.Status.{bit_of, is_set}
use Rattle.tms_defs.specs.Logic.{ones_set, ones_cleared}
use Rattle.gpl_defs.specs.declared.instruction.Space.{Space}
use Rattle.gpl_defs.specs.declared.instruction.Space.TheVariants.{Cpu, Vdp}
use Rattle.gpl_step_defs.specs.declared.cells.TheConstants.{STATUS, CHARACTER, ROW, COLUMN}
use Rattle.gpl_step_defs.specs.declared.status_bits.TheConstants.{HIGHER_BIT, GREATER_BIT, CONDITION_BIT, CARRY_BIT}
use Rattle.gpl_step_defs.specs.declared.status_bits.TheConstants.{OVERFLOW_BIT}
use Rattle.gpl_step_defs.specs.State.{GplState}
use Rattle.gpl_step_defs.specs.Place.{Place, further}
use Rattle.gpl_step_defs.specs.declared.limits.TheConstants.{SCREEN_WIDTH}

-- the state so far, and whether a byte was stored at the character's cell
pub record Changes : Type 0 where
  pub state : GplState
  pub shows : Bool

abbrev pub unchanged : GplState → Changes
unchanged s = record { state = s; shows = false }

-- the next instruction is the one at an address
abbrev pub with_pc : ℕ → Changes → Changes
with_pc address c = record c { state = record c.state { pc = address } }

-- Profile: stores. A byte that is stored at the character's cell, equal to the old one or not, goes to the screen in
-- the end.

abbrev pub with_cell : ℕ → ℕ → Changes → Changes
with_cell offset byte c =
    record {
      state = record c.state { cells = slice_set c.state.cells offset byte };
      shows = (offset == CHARACTER) || c.shows;
    }

-- Profile: video addresses wrap at 16,384.
abbrev pub with_video : ℕ → ℕ → Changes → Changes
with_video address byte c = record c { state = record c.state { vdp = slice_set c.state.vdp (address % 16384) byte } }

abbrev pub with_register : ℕ → ℕ → Changes → Changes
with_register number byte c =
    record c { state = record c.state { registers = slice_set c.state.registers number byte } }

abbrev pub with_byte_in : Space → ℕ → ℕ → Changes → Changes
with_byte_in Cpu offset byte c = with_cell offset byte c
with_byte_in Vdp address byte c = with_video address byte c

abbrev pub with_byte : Place → ℕ → Changes → Changes
with_byte p byte c = with_byte_in p.space p.address byte c

-- GPL Programmer's Guide, the statements: a number of a width, its high byte first
abbrev pub with_value : Width → Place → ℕ → Changes → Changes
with_value Byte p number c = with_byte p number c
with_value Word p number c = with_byte (further 1 p) (low number) (with_byte p (high number) c)

-- GPL Programmer's Guide, "Multiply", "Divide": a number of twice a width, its high part first
abbrev pub with_double : Width → Place → ℕ → Changes → Changes
with_double Byte p number c = with_value Word p number c
with_double Word p number c = with_value Word (further 2 p) (number % 65536) (with_value Word p (number / 65536) c)

-- The status. GPL Programmer's Guide, on the status byte: the bits H, GT, COND, CARRY and OVF.

abbrev pub status_of : GplState → ℕ
status_of s = slice_index s.cells STATUS

abbrev pub with_status : ℕ → Changes → Changes
with_status byte c = record c { state = record c.state { cells = slice_set c.state.cells STATUS byte } }

-- Profile: the five status bits of the processor, from the highest bit on; the low three bits are 0.
abbrev pub status_byte : Flags → ℕ
status_byte flags =
    bit_of flags.lgt HIGHER_BIT + bit_of flags.agt GREATER_BIT + bit_of flags.eq CONDITION_BIT
    + bit_of flags.c CARRY_BIT
    + bit_of flags.ov OVERFLOW_BIT

abbrev pub with_flags : Flags → Changes → Changes
with_flags flags c = with_status (status_byte flags) c

-- the status bit of a mask is set if the test holds, and cleared if not; no other changes
abbrev pub with_bit : ℕ → Bool → Changes → Changes
with_bit mask true c = with_status (ones_set (status_of c.state) mask) c
with_bit mask false c = with_status (ones_cleared Byte (status_of c.state) mask) c

abbrev pub condition : GplState → Bool
condition s = is_set (status_of s) CONDITION_BIT

abbrev pub with_condition : Bool → Changes → Changes
with_condition holds c = with_bit CONDITION_BIT holds c

abbrev pub with_overflow : Bool → Changes → Changes
with_overflow holds c = with_bit OVERFLOW_BIT holds c

-- Profile: the byte that the character's cell then holds goes into video memory, at 32 times the row and the column.
abbrev pub shown : Bool → GplState → GplState
shown false s = s
shown true s =
    record s {
      vdp =
          slice_set s.vdp (SCREEN_WIDTH * slice_index s.cells ROW + slice_index s.cells COLUMN)
          (slice_index s.cells CHARACTER);
    }

-- the state after all changes
abbrev pub finished : Changes → GplState
finished c = shown c.shows c.state
