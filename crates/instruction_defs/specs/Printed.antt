-- The text of an instruction, as a line of source has it.
--
-- Profile: registers are R0 to R15, values and addresses hexadecimal words, a jump names its target's address; counts,
-- the number of an extended operation and the displacement of a bit are decimal.
use Rattle.std.specs.Prelude.{ℕ, ℤ, pos, negsuc, suc, ◌+◌, ◌==◌, nat_le, if◌then◌else◌, List, ◌∷◌, ◌++◌, length}
use Rattle.std.specs.Prelude.{slice_index, codes, Option, Some, None}
use Rattle.std.specs.Fmt.{decimal}
use Rattle.source_defs.specs.Digits.{hex_word}
pub use Rattle.source_defs.specs.ListedLines.{two_texts, with_operands}
use Rattle.tms_defs.specs.Words.{plus}
use Rattle.tms_defs.specs.Instructions.{instr_at, operation_of}
use Rattle.tms_defs.specs.Jumps.{jump_target}
use Rattle.tms_defs.specs.declared.instruction.Place.{Place}
use Rattle.tms_defs.specs.declared.instruction.RegOp.{RegOp}
use Rattle.tms_defs.specs.declared.instruction.RegOp.TheVariants.{XOP, LDCR, STCR}
use Rattle.tms_defs.specs.declared.instruction.JumpOp.{JumpOp}
use Rattle.tms_defs.specs.declared.instruction.JumpOp.TheVariants.{SBO, SBZ, TB}
use Rattle.tms_defs.specs.declared.instruction.Instr.{Instr}
use Rattle.tms_defs.specs.declared.instruction.Instr.TheVariants.{Two, Reg, Shift, One, Jump, Imm, Bare}
use Rattle.tms_defs.specs.Instructions.{name_of}
use Rattle.instruction_defs.specs.Operands.{following_words, has_immediate, has_value, size_in_words}

abbrev pub register_text : ℕ → List ℕ
register_text number = 0x52 ∷ decimal number

-- a signed number in decimal digits
abbrev pub signed_text : ℤ → List ℕ
signed_text (pos number) = decimal number
signed_text (negsuc number) = 0x2D ∷ decimal (suc number)

-- An operand in mode 2 by its address, with its register where that is an index.
-- Editor/Assembler manual, "Addressing Modes".
abbrev pub symbolic_text : ℕ → ℕ → List ℕ
symbolic_text address register =
    if register == 0 then 0x40 ∷ hex_word address
    else 0x40 ∷ (hex_word address ++ (0x28 ∷ (register_text register ++ codes ")")))

-- An operand whose address, where it has one, is a word. Editor/Assembler manual, "Addressing Modes".
unfoldable pub operand_text : Place → ℕ → List ℕ
operand_text place word =
    if place.mode == 0 then register_text place.reg
    else if place.mode == 1 then 0x2A ∷ register_text place.reg
    else if place.mode == 2 then symbolic_text word place.reg
    else 0x2A ∷ (register_text place.reg ++ codes "+")

-- the second operand of an operation on a register: a register, or a number
abbrev pub number_text : RegOp → ℕ → List ℕ
number_text XOP number = decimal number
number_text LDCR number = decimal number
number_text STCR number = decimal number
number_text op number = register_text number

-- The target of a jump whose next instruction is at an address; or the displacement of a bit.
abbrev pub target_text : JumpOp → ℕ → ℤ → List ℕ
target_text SBO next disp = signed_text disp
target_text SBZ next disp = signed_text disp
target_text TB next disp = signed_text disp
target_text op next disp = hex_word (jump_target next disp)

-- The operands of an instruction at an address, with the words from its first on; the words that follow are in the
-- order of the operands. None where it has no operand.
abbrev pub operands_text : Instr → ℕ → List ℕ → Option (List ℕ)
operands_text (Two op byte dst src) at words =
    Some (two_texts (operand_text src (slice_index words 1))
    (operand_text dst (slice_index words (1 + following_words src))))
operands_text (Reg op number src) at words =
    Some (two_texts (operand_text src (slice_index words 1)) (number_text op number))
operands_text (Shift op count number) at words = Some (two_texts (register_text number) (decimal count))
operands_text (One op place) at words = Some (operand_text place (slice_index words 1))
operands_text (Jump op disp) at words = Some (target_text op (plus at 2) disp)
operands_text (Imm op number) at words =
    Some (if has_immediate op then two_texts (register_text number) (hex_word (slice_index words 1))
    else register_text number)
operands_text (Bare op) at words = if has_value op then Some (hex_word (slice_index words 1)) else None

-- an instruction at an address, with the words from its first on
abbrev pub instr_text : Instr → ℕ → List ℕ → List ℕ
instr_text instr at words = with_operands (name_of (operation_of instr)) (operands_text instr at words)

-- a text, and how many words it stands for
pub record Printed : Type 0 where
  pub text : List ℕ
  pub count : ℕ

-- a word that is no instruction, or not all of one
abbrev pub printed_word : ℕ → Printed
printed_word word = record { text = codes "DATA " ++ hex_word word; count = 1 }

abbrev pub printed_where : Option Instr → ℕ → List ℕ → Printed
printed_where None at words = printed_word (slice_index words 0)
printed_where (Some instr) at words =
    if nat_le (size_in_words instr) (length words)
    then record { text = instr_text instr at words; count = size_in_words instr }
    else printed_word (slice_index words 0)

-- Profile: the text of the whole instruction at the front of some words, of which the first is at an address; or
-- DATA with the first word.
unfoldable pub printed : List ℕ → ℕ → Printed
printed words at = printed_where (instr_at (slice_index words 0)) at words
