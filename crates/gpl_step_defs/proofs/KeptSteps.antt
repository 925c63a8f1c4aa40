-- A step leaves a state a state.
use Rattle.std.proofs.Common.{◌≡◌, ℕ, zero, suc, ◌/◌, ◌%◌, ◌<◌, Bool, true, false, List, Option, Some, None, Result, Ok, Err, IfOk, arith}
use Rattle.std.specs.Prelude.{nat_lt, not, ◌||◌, ◌==◌, slice_index, slice_set}
use Rattle.std.proofs.lemmas.Bool.Decides.{nat_tests}
use Rattle.tms_defs.specs.Bytes.{HoldsBytes}
use Rattle.tms_defs.proofs.ByteLaws.{replicated_zeros}
use Rattle.base_defs.specs.Addresses.{next_in_grom, in_grom_of}
use Rattle.tms_defs.specs.Flags.{Width, modulus, size_of}
use Rattle.tms_defs.proofs.WordLaws.{join-fits}
use Rattle.base_defs.proofs.AddressLaws.{next-fits}
use Rattle.gpl_defs.specs.declared.instruction.GplSource.{GplSource}
use Rattle.gpl_defs.specs.declared.instruction.GplSource.TheVariants as source
use Rattle.gpl_defs.specs.declared.instruction.MoveLength.{MoveLength}
use Rattle.gpl_defs.specs.declared.instruction.MoveTarget.{MoveTarget}
use Rattle.gpl_defs.specs.declared.instruction.MoveSource.{MoveSource}
use Rattle.gpl_defs.specs.declared.instruction.MoveKind.{MoveKind}
use Rattle.gpl_defs.specs.declared.instruction.MoveKind.TheVariants.{GromIndexedToMemory, MemoryToMemory, GromToRegisters}
use Rattle.gpl_defs.specs.declared.instruction.GplInstr.{GplInstr}
use Rattle.gpl_defs.specs.declared.instruction.GplInstr.TheVariants.{Plain, Byte as OfByte, Jump, Branch, One, Two, Move}
use Rattle.gpl_defs.specs.declared.instruction.GplOperation.{GplOperation}
use Rattle.gpl_defs.specs.declared.instruction.GplOperation.TheVariants as operation
use Rattle.gpl_defs.specs.declared.instruction.GplRead.{GplRead}
use Rattle.gpl_defs.specs.declared.instruction.GplRead.TheVariants.{Instr, Refused}
use Rattle.gpl_defs.specs.Valid.{has_words}
use Rattle.gpl_defs.specs.Codes.{operation_at}
use Rattle.gpl_defs.specs.Reading.{word_at, address_at, index_by, operand_at, source_at, length_at, target_at}
use Rattle.gpl_defs.specs.Reading.{from_at, instr_at, read_by, reading}
use Rattle.gpl_defs.proofs.CodeLaws.{row_fits, rows_fit}
use Rattle.gpl_defs.proofs.OperandLaws.{index_at, address_by, operand_by}
use Rattle.gpl_step_defs.specs.State.{GplState, IsState, zeros, start}
use Rattle.gpl_step_defs.specs.declared.cells.TheConstants.{VISIBLE_CELLS, VALUE_STACK, RETURN_STACK}
use Rattle.gpl_step_defs.specs.Laws.{StepsKeepStates}
use Rattle.gpl_step_defs.specs.Place.{place_of, value_at}
use Rattle.gpl_step_defs.specs.Changes.{Changes, unchanged, shown, finished}
use Rattle.gpl_step_defs.specs.Copy.{From, FromMemory, FromGrom, To, ToMemory, ToRegisters, byte_from, next_from, with_byte_to, next_to, copied}
use Rattle.gpl_step_defs.specs.Copy.{move_found, moved}
use Rattle.gpl_step_defs.specs.Step.{word_or_byte, destination_size, source_of, changes_of, after, executed, step}
use Rattle.gpl_step_defs.proofs.Kept.{Kept, set_keeps, byte_fits, value_fits, with_byte_keeps, with_register_keeps}
use Rattle.gpl_step_defs.proofs.KeptRows.{then_if_ok, plain_keeps, immediate_keeps, jump_keeps, branched_keeps, one_keeps, two_keeps}

-- ---- what is read fits

abbrev SourceFits : Width → GplSource → Type 0
SourceFits width (source.At operand) = Unit {0}
SourceFits width (source.Immediate value) = value < modulus width

abbrev InstrFits : GplInstr → Type 0
InstrFits (Plain op) = Unit {0}
InstrFits (OfByte op value) = value < 256
InstrFits (Jump op to) = to < 65536
InstrFits (Branch on low) = low < 8192
InstrFits (One op word at) = (has_words op || not word) ≡ true
InstrFits (Two op word dst src) = SourceFits (word_or_byte word) src
InstrFits (Move length target source) = Unit {0}

abbrev ReadFits : GplRead → Type 0
ReadFits (Refused code) = Unit {0}
ReadFits (Instr instr next) = InstrFits instr × (next < 65536)

module _ (image : List ℕ) (fits : (k : ℕ) → slice_index image k < 256) where
  word_fits : (at : ℕ) → (word_at image at).0 < 65536
  word_fits at = join-fits (slice_index image at) (slice_index image (next_in_grom at)) (fits at) (fits (next_in_grom at))

  word_next : (at : ℕ) → at < 65536 → (word_at image at).1 < 65536
  word_next at lt = next-fits (next_in_grom at) (next-fits at lt)

  address_next : (first at : ℕ) → at < 65536 → (address_at first image at).1 < 65536
  address_next first at lt = by (first % 16 == 15)
    where
      by : (b : Bool) → (address_by b first image at).1 < 65536
      by true = word_next at lt
      by false = next-fits at lt

  index_next : (first at : ℕ) → at < 65536 → (index_at first image at).1 < 65536
  index_next first at lt = by (first / 64 % 2 == 1)
    where
      by : (b : Bool) → (index_by b image at).1 < 65536
      by true = next-fits at lt
      by false = lt

  operand_next : (at : ℕ) → at < 65536 → (operand_at image at).1 < 65536
  unfolding operand_at
  operand_next at lt = by (nat_lt (slice_index image at) 0x80)
    where
      by : (b : Bool) → (operand_by b (slice_index image at) image (next_in_grom at)).1 < 65536
      by true = next-fits at lt
      by false = index_next (slice_index image at) (address_at (slice_index image at) image (next_in_grom at)).1 (address_next (slice_index image at) (next_in_grom at) (next-fits at lt))

  source_fits : (immediate word : Bool) (at : ℕ) → SourceFits (word_or_byte word) (source_at immediate word image at).0
  source_fits true true at = word_fits at
  source_fits true false at = fits at
  source_fits false word at = tt

  source_next : (immediate word : Bool) (at : ℕ) → at < 65536 → (source_at immediate word image at).1 < 65536
  source_next true true at lt = word_next at lt
  source_next true false at lt = next-fits at lt
  source_next false word at lt = operand_next at lt

  length_next : (immediate : Bool) (at : ℕ) → at < 65536 → (length_at immediate image at).1 < 65536
  length_next true at lt = word_next at lt
  length_next false at lt = operand_next at lt

  target_next : (kind : MoveKind) (at : ℕ) → at < 65536 → (target_at kind image at).1 < 65536
  target_next GromToRegisters at lt = next-fits at lt
  target_next memory at lt = operand_next at lt

  from_next : (kind : MoveKind) (at : ℕ) → at < 65536 → (from_at kind image at).1 < 65536
  from_next MemoryToMemory at lt = operand_next at lt
  from_next GromIndexedToMemory at lt = next-fits (word_at image at).1 (word_next at lt)
  from_next grom at lt = word_next at lt

  instr_fits : (found : GplOperation) (code at : ℕ) → row_fits (Some found) code ≡ true → InstrFits (instr_at found code image at).0
  instr_fits (operation.Plain op) code at fit = tt
  instr_fits (operation.Byte op) code at fit = fits at
  instr_fits (operation.Jump op) code at fit = word_fits at
  instr_fits (operation.Branch on) code at fit = let byte = fits at in omega (arith, byte)
  instr_fits (operation.One op) code at fit = grind (arith, nat_tests)
  instr_fits (operation.Two op) code at fit = source_fits (code / 2 % 2 == 1) (code % 2 == 1) (operand_at image at).1
  instr_fits (operation.Move kind) code at fit = tt

  instr_next : (found : GplOperation) (code at : ℕ) → at < 65536 → (instr_at found code image at).1 < 65536
  instr_next (operation.Plain op) code at lt = lt
  instr_next (operation.Byte op) code at lt = next-fits at lt
  instr_next (operation.Jump op) code at lt = word_next at lt
  instr_next (operation.Branch on) code at lt = next-fits at lt
  instr_next (operation.One op) code at lt = operand_next at lt
  instr_next (operation.Two op) code at lt = source_next (code / 2 % 2 == 1) (code % 2 == 1) (operand_at image at).1 (operand_next at lt)
  instr_next (operation.Move kind) code at lt =
      let count = length_at (code % 2 == 1) image at in
      from_next kind (target_at kind image count.1).1 (target_next kind count.1 (length_next (code % 2 == 1) at lt))

  reading_fits : (at : ℕ) → at < 65536 → ReadFits (reading image at)
  unfolding reading
  reading_fits at lt = by (operation_at (slice_index image at)) (rows_fit (slice_index image at) (fits at))
    where
      by : (found : Option GplOperation) → row_fits found (slice_index image at) ≡ true → ReadFits (read_by found (slice_index image at) image (next_in_grom at))
      by None fit = tt
      by (Some found) fit = (instr_fits found (slice_index image at) (next_in_grom at) fit, instr_next found (slice_index image at) (next_in_grom at) (next-fits at lt))

-- ---- MOVE

from_fits : (from : From) (s : GplState) → IsState s → byte_from from s < 256
from_fits (FromMemory p) s h = byte_fits s p h
from_fits (FromGrom address) s h = h.image.fits address

to_keeps : (to : To) (byte : ℕ) (c : Changes) → byte < 256 → Kept c → Kept (with_byte_to to byte c)
to_keeps (ToMemory p) byte c lt h = with_byte_keeps p byte c lt h
to_keeps (ToRegisters number) byte c lt h = with_register_keeps number byte c lt h

copied_keeps : (bytes : ℕ) (from : From) (to : To) (c : Changes) → Kept c → Kept (copied bytes from to c)
copied_keeps zero from to c h = h
copied_keeps (suc bytes) from to c h =
    copied_keeps bytes (next_from from) (next_to to) (with_byte_to to (byte_from from c.state) c) (to_keeps to (byte_from from c.state) c (from_fits from c.state h) h)

abbrev Any : {A : Type 0} → A → Type 0
Any x = Unit {0}

any_if_ok : {A C : Type 0} (r : Result A C) → IfOk r Any
any_if_ok (Ok x) = tt
any_if_ok (Err cause) = tt

moved_keeps : (length : MoveLength) (target : MoveTarget) (source : MoveSource) (c : Changes) → Kept c → IfOk (moved length target source c) Kept
moved_keeps length target source c h =
    then_if_ok Any Kept (move_found length target source c.state) _ (any_if_ok (move_found length target source c.state))
    (λ found _. copied_keeps found.bytes found.from found.to c h)

-- ---- the step

number_fits : (s : GplState) (width : Width) (src : GplSource) → SourceFits width src → IsState s → IfOk (source_of s width src) (λ source. source.number < modulus width)
number_fits s width (source.At operand) fits h =
    then_if_ok Any (λ source. source.number < modulus width) (place_of s (size_of width) operand) _ (any_if_ok (place_of s (size_of width) operand)) (λ p _. value_fits s width p h)
number_fits s width (source.Immediate value) fits h = fits

changes_keep : (instr : GplInstr) (at : ℕ) (c : Changes) → InstrFits instr → at < 65536 → Kept c → IfOk (changes_of instr at c) Kept
changes_keep (Plain op) at c fits lt h = plain_keeps op c h
changes_keep (OfByte op value) at c fits lt h = immediate_keeps op value c fits h
changes_keep (Jump op to) at c fits lt h = jump_keeps op to c fits h
changes_keep (Branch on low) at c fits lt h =
    let to : in_grom_of at low < 65536 = omega (arith, fits, lt) in branched_keeps on (in_grom_of at low) c to h
changes_keep (One op word operand) at c fits lt h =
    then_if_ok Any Kept (place_of c.state (size_of (word_or_byte word)) operand) _ (any_if_ok (place_of c.state (size_of (word_or_byte word)) operand))
    (λ p _. one_keeps op word p (value_at c.state (word_or_byte word) p) c fits (value_fits c.state (word_or_byte word) p h) h)
changes_keep (Two op word dst src) at c fits lt h =
    then_if_ok Any Kept (place_of c.state (destination_size op (word_or_byte word)) dst) _ (any_if_ok (place_of c.state (destination_size op (word_or_byte word)) dst))
    (λ p _. then_if_ok (λ source. source.number < modulus (word_or_byte word)) Kept (source_of c.state (word_or_byte word) src) _ (number_fits c.state (word_or_byte word) src fits h)
    (λ source small. two_keeps op (word_or_byte word) p (value_at c.state (word_or_byte word) p) source c (value_fits c.state (word_or_byte word) p h) small h))
changes_keep (Move length target source) at c fits lt h = moved_keeps length target source c h

finished_keeps : (c : Changes) → Kept c → IsState (finished c)
finished_keeps c h = by c.shows
  where
    by : (b : Bool) → IsState (shown b c.state)
    by false = h
    by true = record { cells = h.cells; vdp = set_keeps 16384 c.state.vdp _ _ h.vdp (h.cells.fits 0x7D); registers = h.registers; pc = h.pc; image = h.image }

after_keeps : (instr : GplInstr) (next : ℕ) (s : GplState) → InstrFits instr → next < 65536 → IsState s → IfOk (after instr next s) IsState
unfolding after
after_keeps instr next s fits lt h =
    let begun : GplState = record s { pc = next } in
    let is : IsState begun = record { cells = h.cells; vdp = h.vdp; registers = h.registers; pc = lt; image = h.image } in
    then_if_ok Kept IsState (changes_of instr s.pc (unchanged begun)) _ (changes_keep instr s.pc (unchanged begun) fits h.pc is) (λ c kept. finished_keeps c kept)

executed_keeps : (read : GplRead) (s : GplState) → ReadFits read → IsState s → IfOk (executed read s) IsState
executed_keeps (Refused code) s fits h = tt
executed_keeps (Instr instr next) s fits h = after_keeps instr next s fits.0 fits.1 h

step_keeps : (s : GplState) → IsState s → IfOk (step s) IsState
step_keeps s h = executed_keeps (reading s.image s.pc) s (reading_fits s.image h.image.fits s.pc h.pc) h

zeros_hold : (count : ℕ) → HoldsBytes count (zeros count)
unfolding zeros
zeros_hold count =
    let all = replicated_zeros count in
    record { size = all.size; fits = λ k. let is_zero = all.zeros k in omega (arith, is_zero) }

start_is : (image : List ℕ) (entry : ℕ) → HoldsBytes 65536 image → entry < 65536 → IsState (start image entry)
start_is image entry bytes lt = record {
  cells = set_keeps VISIBLE_CELLS (slice_set (zeros VISIBLE_CELLS) VALUE_STACK 0x9F) RETURN_STACK 0x7E
      (set_keeps VISIBLE_CELLS (zeros VISIBLE_CELLS) VALUE_STACK 0x9F (zeros_hold VISIBLE_CELLS) (omega arith)) (omega arith);
  vdp = zeros_hold 16384;
  registers = zeros_hold 8;
  pc = lt;
  image = bytes;
}

pub steps_keep_states : StepsKeepStates
steps_keep_states = record { begins = start_is; keeps = step_keeps }
