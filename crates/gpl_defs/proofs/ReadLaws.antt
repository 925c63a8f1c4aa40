-- What is read at an address is spelled there.
use Rattle.std.proofs.Common.{◌≡◌, ℕ, zero, suc, ◌/◌, ◌%◌, ◌<◌, Bool, true, false, ◌||◌, not, List, [], ◌∷◌}
use Rattle.std.proofs.Common.{refl, sym, ap, arith, Some}
use Rattle.std.specs.Prelude.{◌==◌, slice_index, IsTrue}
use Rattle.std.proofs.lemmas.Bool.Decides.{nat_tests}
use Rattle.tms_defs.specs.Words.{high, low, join}
use Rattle.base_defs.specs.Addresses.{next_in_grom}
use Rattle.gpl_defs.specs.declared.instruction.MoveKind.{MoveKind}
use Rattle.gpl_defs.specs.declared.instruction.MoveKind.TheVariants.{
  GromToMemory,
  GromIndexedToMemory,
  MemoryToMemory,
  GromToRegisters,
}
use Rattle.gpl_defs.specs.declared.instruction.TwoName.{TwoName}
use Rattle.gpl_defs.specs.declared.instruction.GplOperation.{GplOperation}
use Rattle.gpl_defs.specs.declared.instruction.GplOperation.TheVariants as operation
use Rattle.gpl_defs.specs.Valid.{is_valid, is_valid_source, is_valid_move, has_immediate}
use Rattle.gpl_defs.specs.Bytes.{word_bytes, value_bytes, from_bytes, kind_of, operation_of, is_immediate, is_counted}
use Rattle.gpl_defs.specs.Bytes.{code_of}
use Rattle.gpl_defs.specs.Spellings.{SpellsSource, SpellsLength, SpellsTarget, SpellsFrom, SpellsRest, AreBytesAt, Holds}
use Rattle.gpl_defs.specs.Reading.{word_at, value_at, source_at, length_at, target_at, from_at, move_at, instr_at, operand_at}
use Rattle.gpl_defs.proofs.CodeLaws.{row_fits}
use Rattle.gpl_defs.proofs.BytesAtLaws.{holds_join}
use Rattle.gpl_defs.proofs.OperandLaws.{operand_read}
use Rattle.base_defs.specs.Counts.{one_if}

module _ (image : List ℕ) (fits : (k : ℕ) → slice_index image k < 256) where
  word_read : (at : ℕ) → AreBytesAt image (word_bytes (word_at image at).0) at (word_at image at).1
  word_read at =
      let lt = fits at in
      let lt_too = fits (next_in_grom at) in
      let top : high (word_at image at).0 ≡ slice_index image at = omega arith in
      let below : low (word_at image at).0 ≡ slice_index image (next_in_grom at) = omega arith in
      (sym top, (sym below, refl))

  value_read : (word : Bool) (at : ℕ) → AreBytesAt image (value_bytes word (value_at word image at).0) at (value_at word image at).1
  value_read true at = word_read at
  value_read false at = (refl, refl)

  source_read : (immediate word : Bool) (at : ℕ) →
      Holds (SpellsSource word (source_at immediate word image at).0) image at (source_at immediate word image at).1
  source_read true word at =
      record { bytes = value_bytes word (value_at word image at).0; is_kind = refl; are_bytes_at = value_read word at }
  source_read false word at = operand_read image at fits

  length_read : (immediate : Bool) (at : ℕ) →
      Holds (SpellsLength (length_at immediate image at).0) image at (length_at immediate image at).1
  length_read true at = record { bytes = word_bytes (word_at image at).0; is_kind = refl; are_bytes_at = word_read at }
  length_read false at = operand_read image at fits

  target_read : (kind : MoveKind) (at : ℕ) →
      Holds (SpellsTarget (target_at kind image at).0) image at (target_at kind image at).1
  target_read GromToRegisters at =
      record { bytes = slice_index image at ∷ []; is_kind = refl; are_bytes_at = (refl, refl) }
  target_read GromToMemory at = operand_read image at fits
  target_read GromIndexedToMemory at = operand_read image at fits
  target_read MemoryToMemory at = operand_read image at fits

  from_read : (kind : MoveKind) (at : ℕ) → Holds (SpellsFrom (from_at kind image at).0) image at (from_at kind image at).1
  from_read MemoryToMemory at = operand_read image at fits
  from_read GromIndexedToMemory at =
      let address = word_read at in
      record {
        bytes = from_bytes (from_at GromIndexedToMemory image at).0;
        is_kind = refl;
        are_bytes_at = (address.0, (address.1.0, (refl, refl)));
      }
  from_read GromToMemory at = record { bytes = word_bytes (word_at image at).0; is_kind = refl; are_bytes_at = word_read at }
  from_read GromToRegisters at =
      record { bytes = word_bytes (word_at image at).0; is_kind = refl; are_bytes_at = word_read at }

  move_read : (kind : MoveKind) (immediate : Bool) (at : ℕ) →
      Holds (SpellsRest (move_at kind immediate image at).0) image at (move_at kind immediate image at).1
  move_read kind immediate at =
      let count = length_at immediate image at in
      let to = target_at kind image count.1 in
      holds_join image at count.1 (move_at kind immediate image at).1 (length_read immediate at)
      (holds_join image count.1 to.1 (move_at kind immediate image at).1 (target_read kind count.1) (from_read kind to.1))

  pub rest_read : (operation : GplOperation) (code at : ℕ) →
      Holds (SpellsRest (instr_at operation code image at).0) image at (instr_at operation code image at).1
  rest_read (operation.Plain op) code at = record { bytes = []; is_kind = refl; are_bytes_at = refl }
  rest_read (operation.Byte op) code at =
      record { bytes = slice_index image at ∷ []; is_kind = refl; are_bytes_at = (refl, refl) }
  rest_read (operation.Jump op) code at =
      record { bytes = word_bytes (word_at image at).0; is_kind = refl; are_bytes_at = word_read at }
  rest_read (operation.Branch on) code at =
      let lt = fits at in
      let below : low (join (code % 32) (slice_index image at)) ≡ slice_index image at = omega arith in
      record { bytes = low (join (code % 32) (slice_index image at)) ∷ []; is_kind = refl; are_bytes_at = (sym below, refl) }
  rest_read (operation.One op) code at = operand_read image at fits
  rest_read (operation.Two op) code at =
      let dst = operand_at image at in
      holds_join image at dst.1 (instr_at (operation.Two op) code image at).1 (operand_read image at fits)
      (source_read (code / 2 % 2 == 1) (code % 2 == 1) dst.1)
  rest_read (operation.Move kind) code at = move_read kind (code % 2 == 1) at

  -- ---- the code byte that was read is that of the instruction

  bit_is : (n : ℕ) → n < 2 → one_if (n == 1) ≡ n
  bit_is zero lt = refl
  bit_is (suc zero) lt = refl
  bit_is (suc (suc n)) lt = absurd (omega arith)

  immediate_is : (immediate word : Bool) (at : ℕ) → is_immediate (source_at immediate word image at).0 ≡ immediate
  immediate_is true word at = refl
  immediate_is false word at = refl

  counted_is : (immediate : Bool) (at : ℕ) → is_counted (length_at immediate image at).0 ≡ immediate
  counted_is true at = refl
  counted_is false at = refl

  kind_is : (kind : MoveKind) (at after : ℕ) → kind_of (target_at kind image at).0 (from_at kind image after).0 ≡ kind
  kind_is GromToMemory at after = refl
  kind_is GromIndexedToMemory at after = refl
  kind_is MemoryToMemory at after = refl
  kind_is GromToRegisters at after = refl

  pub code_read : (operation : GplOperation) (code at : ℕ) → row_fits (Some operation) code ≡ true →
      code_of (instr_at operation code image at).0 ≡ code
  code_read (operation.Plain op) code at fit = grind (arith, nat_tests)
  code_read (operation.Byte op) code at fit = grind (arith, nat_tests)
  code_read (operation.Jump op) code at fit = grind (arith, nat_tests)
  code_read (operation.Branch on) code at fit =
      let lt = fits at in
      let top : high (join (code % 32) (slice_index image at)) ≡ code % 32 = omega arith in
      rw top (grind (arith, nat_tests))
  code_read (operation.One op) code at fit = rw (bit_is (code % 2) (omega arith)) (grind (arith, nat_tests))
  code_read (operation.Two op) code at fit =
      rw (
        immediate_is (code / 2 % 2 == 1) (code % 2 == 1) (operand_at image at).1,
        bit_is (code / 2 % 2) (omega arith),
        bit_is (code % 2) (omega arith),
      ) (grind (arith, nat_tests))
  code_read (operation.Move kind) code at fit =
      let count = length_at (code % 2 == 1) image at in
      let to = target_at kind image count.1 in
      rw (kind_is kind count.1 to.1, counted_is (code % 2 == 1) at, bit_is (code % 2) (omega arith))
      (grind (arith, nat_tests))

  -- ---- what is read is valid

  valid_source : (op : TwoName) (immediate word : Bool) (at : ℕ) → (has_immediate op || not immediate) ≡ true →
      IsTrue (is_valid_source op word (source_at immediate word image at).0)
  valid_source op false word at may = refl
  valid_source op true true at may = grind (arith, nat_tests)
  valid_source op true false at may = let lt = fits at in grind (arith, nat_tests)

  valid_move : (kind : MoveKind) (at after : ℕ) →
      IsTrue (is_valid_move (target_at kind image at).0 (from_at kind image after).0)
  valid_move GromToMemory at after = refl
  valid_move GromIndexedToMemory at after = refl
  valid_move MemoryToMemory at after = refl
  valid_move GromToRegisters at after = refl

  pub valid_read : (operation : GplOperation) (code at : ℕ) → row_fits (Some operation) code ≡ true →
      IsTrue (is_valid (instr_at operation code image at).0)
  valid_read (operation.Plain op) code at fit = refl
  valid_read (operation.Byte op) code at fit = refl
  valid_read (operation.Jump op) code at fit = refl
  valid_read (operation.Branch on) code at fit = let lt = fits at in grind (arith, nat_tests)
  valid_read (operation.One op) code at fit = grind (arith, nat_tests)
  valid_read (operation.Two op) code at fit =
      valid_source op (code / 2 % 2 == 1) (code % 2 == 1) (operand_at image at).1 (grind (arith, nat_tests))
  valid_read (operation.Move kind) code at fit =
      let count = length_at (code % 2 == 1) image at in
      valid_move kind count.1 (target_at kind image count.1).1

  pub operation_read : (operation : GplOperation) (code at : ℕ) →
      operation_of (instr_at operation code image at).0 ≡ operation
  operation_read (operation.Plain op) code at = refl
  operation_read (operation.Byte op) code at = refl
  operation_read (operation.Jump op) code at = refl
  operation_read (operation.Branch on) code at = refl
  operation_read (operation.One op) code at = refl
  operation_read (operation.Two op) code at = refl
  operation_read (operation.Move kind) code at =
      let count = length_at (code % 2 == 1) image at in
      ap operation.Move (kind_is kind count.1 (target_at kind image count.1).1)
