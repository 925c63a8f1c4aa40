-- The text of an instruction has no equals sign and no line feed.
use Rattle.std.proofs.Common.{◌≡◌, ℕ, ◌+◌, true, false, nat_eq, List, ◌∷◌, ◌++◌, length, Option, Some, None, refl}
use Rattle.std.specs.Prelude.{ℤ, pos, negsuc, nat_le, slice_index, codes}
use Rattle.std.specs.List.{list_all}
use Rattle.std.specs.Fmt.{decimal}
use Rattle.source_defs.specs.Digits.{hex_word}
use Rattle.source_defs.specs.ListedLines.{two_texts, with_operands}
use Rattle.tms_defs.specs.Words.{plus}
use Rattle.tms_defs.specs.Instructions.{instr_at}
use Rattle.tms_defs.specs.Jumps.{jump_target}
use Rattle.tms_defs.specs.declared.instruction.Operation.{Operation}
use Rattle.tms_defs.specs.declared.instruction.Operation.TheVariants as operation
use Rattle.tms_defs.specs.declared.instruction.TwoOp.TheVariants.{SZC}
use Rattle.tms_defs.specs.declared.instruction.Place.{Place}
use Rattle.tms_defs.specs.declared.instruction.RegOp.{RegOp}
use Rattle.tms_defs.specs.declared.instruction.RegOp.TheVariants.{COC, XOP, LDCR, STCR}
use Rattle.tms_defs.specs.declared.instruction.ShiftOp.TheVariants.{SRA}
use Rattle.tms_defs.specs.declared.instruction.OneOp.TheVariants.{BLWP}
use Rattle.tms_defs.specs.declared.instruction.JumpOp.{JumpOp}
use Rattle.tms_defs.specs.declared.instruction.JumpOp.TheVariants.{JMP, SBO, SBZ, TB}
use Rattle.tms_defs.specs.declared.instruction.ImmOp.TheVariants.{LI}
use Rattle.tms_defs.specs.declared.instruction.BareOp.TheVariants.{LWPI}
use Rattle.tms_defs.specs.declared.instruction.Instr.{Instr}
use Rattle.tms_defs.specs.declared.instruction.Instr.TheVariants.{Two, Reg, Shift, One, Jump, Imm, Bare}
use Rattle.tms_defs.specs.Instructions.{name_of}
use Rattle.instruction_defs.specs.Operands.{following_words, has_immediate, has_value, size_in_words}
use Rattle.instruction_defs.specs.Printed.{register_text, signed_text, symbolic_text, operand_text, number_text}
use Rattle.instruction_defs.specs.Printed.{Printed, target_text, instr_text, printed_where, printed}
use Rattle.debug_report_defs.proofs.Digits.{cond_both, decimal_passes, word_digits_pass}
use Rattle.debug_report_defs.proofs.LineSplit.{in_front}
use Rattle.debug_report_defs.proofs.FrontRead.{front_all}

abbrev Clean : List ℕ → Type 0
Clean text = list_all in_front text ≡ true

clean_name : (found : Operation) → Clean (name_of found)
clean_name (operation.Two SZC false) = refl
clean_name (operation.Two _ false) = refl
clean_name (operation.Reg COC) = refl
clean_name (operation.Shift SRA) = refl
clean_name (operation.One BLWP) = refl
clean_name (operation.Jump JMP) = refl
clean_name (operation.Imm LI) = refl
clean_name (operation.Bare LWPI) = refl
clean_name _ = refl

clean_word : (n : ℕ) → Clean (hex_word n)
clean_word n = word_digits_pass in_front n refl

clean_decimal : (n : ℕ) → Clean (decimal n)
clean_decimal n = decimal_passes in_front n refl

clean_register : (n : ℕ) → Clean (register_text n)
clean_register n = clean_decimal n

clean_signed : (n : ℤ) → Clean (signed_text n)
clean_signed (pos n) = clean_decimal n
clean_signed (negsuc n) = clean_decimal _

clean_symbolic : (address register : ℕ) → Clean (symbolic_text address register)
clean_symbolic address register =
    cond_both Clean (nat_eq register 0) _ _ (clean_word address)
    (front_all (hex_word address) (0x28 ∷ (register_text register ++ codes ")")) (clean_word address)
    (front_all (register_text register) (codes ")") (clean_register register) refl))

clean_operand : (place : Place) (word : ℕ) → Clean (operand_text place word)
unfolding operand_text
clean_operand place word =
    cond_both Clean (nat_eq place.mode 0) _ _ (clean_register place.reg)
    (cond_both Clean (nat_eq place.mode 1) _ _ (clean_register place.reg)
    (cond_both Clean (nat_eq place.mode 2) _ _ (clean_symbolic word place.reg)
    (front_all (register_text place.reg) (codes "+") (clean_register place.reg) refl)))

clean_two : (first second : List ℕ) → Clean first → Clean second → Clean (two_texts first second)
clean_two first second e f = front_all first (0x2C ∷ second) e f

clean_number : (op : RegOp) (number : ℕ) → Clean (number_text op number)
clean_number XOP number = clean_decimal number
clean_number LDCR number = clean_decimal number
clean_number STCR number = clean_decimal number
clean_number _ number = clean_register number

clean_target : (op : JumpOp) (next : ℕ) (disp : ℤ) → Clean (target_text op next disp)
clean_target SBO next disp = clean_signed disp
clean_target SBZ next disp = clean_signed disp
clean_target TB next disp = clean_signed disp
clean_target _ next disp = clean_word (jump_target next disp)

clean_instr : (found : Instr) (at : ℕ) (words : List ℕ) → Clean (instr_text found at words)
clean_instr (Two op byte dst src) at words =
    front_all (name_of (operation.Two op byte)) _ (clean_name (operation.Two op byte))
    (clean_two (operand_text src (slice_index words 1)) (operand_text dst (slice_index words (1 + following_words src)))
    (clean_operand src (slice_index words 1)) (clean_operand dst (slice_index words (1 + following_words src))))
clean_instr (Reg op number src) at words =
    front_all (name_of (operation.Reg op)) _ (clean_name (operation.Reg op))
    (clean_two (operand_text src (slice_index words 1)) (number_text op number) (clean_operand src (slice_index words 1)) (clean_number op number))
clean_instr (Shift op count number) at words =
    front_all (name_of (operation.Shift op)) _ (clean_name (operation.Shift op))
    (clean_two (register_text number) (decimal count) (clean_register number) (clean_decimal count))
clean_instr (One op place) at words =
    front_all (name_of (operation.One op)) _ (clean_name (operation.One op)) (clean_operand place (slice_index words 1))
clean_instr (Jump op disp) at words =
    front_all (name_of (operation.Jump op)) _ (clean_name (operation.Jump op)) (clean_target op (plus at 2) disp)
clean_instr (Imm op number) at words =
    front_all (name_of (operation.Imm op)) _ (clean_name (operation.Imm op))
    (cond_both Clean (has_immediate op) _ _
    (clean_two (register_text number) (hex_word (slice_index words 1)) (clean_register number)
    (clean_word (slice_index words 1)))
    (clean_register number))
clean_instr (Bare op) at words =
    cond_both (λ operands. Clean (with_operands (name_of (operation.Bare op)) operands)) (has_value op) _ _
    (front_all (name_of (operation.Bare op)) _ (clean_name (operation.Bare op)) (clean_word (slice_index words 1)))
    (clean_name (operation.Bare op))

pub clean_printed : (words : List ℕ) (at : ℕ) → list_all in_front (printed words at).text ≡ true
unfolding printed
clean_printed words at = by (instr_at (slice_index words 0))
  where
    by : (found : Option Instr) → Clean (printed_where found at words).text
    by None = clean_word (slice_index words 0)
    by (Some found) =
        cond_both (λ (shown : Printed). Clean shown.text) (nat_le (size_in_words found) (length words)) _ _
        (clean_instr found at words) (clean_word (slice_index words 0))
