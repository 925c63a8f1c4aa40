-- The text of an instruction, which the assembler reads as that instruction again.
--
-- Profile: values and addresses are hexadecimal words, and bytes have two digits; BR and BS name their target's
-- address.
use Rattle.std.specs.Prelude.{ℕ, ◌+◌, ◌%◌, Bool, true, false, List, [], ◌++◌, codes, Option, Some, None}
use Rattle.source_defs.specs.Digits.{hex_word, hex_byte}
use Rattle.source_defs.specs.ListedLines.{two_texts, with_operands}
use Rattle.gpl_defs.specs.declared.instruction.Space.{Space}
use Rattle.gpl_defs.specs.declared.instruction.Space.TheVariants.{Cpu, Vdp}
use Rattle.gpl_defs.specs.declared.instruction.GplOperand.{GplOperand}
use Rattle.gpl_defs.specs.declared.instruction.GplSource.{GplSource}
use Rattle.gpl_defs.specs.declared.instruction.GplSource.TheVariants as source
use Rattle.gpl_defs.specs.declared.instruction.MoveLength.{MoveLength}
use Rattle.gpl_defs.specs.declared.instruction.MoveLength.TheVariants as count
use Rattle.gpl_defs.specs.declared.instruction.MoveTarget.{MoveTarget}
use Rattle.gpl_defs.specs.declared.instruction.MoveTarget.TheVariants as target
use Rattle.gpl_defs.specs.declared.instruction.MoveSource.{MoveSource}
use Rattle.gpl_defs.specs.declared.instruction.MoveSource.TheVariants as from
use Rattle.gpl_defs.specs.declared.instruction.GplInstr.{GplInstr}
use Rattle.gpl_defs.specs.declared.instruction.GplInstr.TheVariants.{Plain, Byte, Jump, Branch, One, Two, Move}
use Rattle.gpl_defs.specs.declared.instruction.GplRead.{GplRead}
use Rattle.gpl_defs.specs.declared.instruction.GplRead.TheVariants.{Instr, Refused}
use Rattle.gpl_source_defs.specs.declared.mnemonic.Mnemonic.{Mnemonic}
use Rattle.gpl_source_defs.specs.declared.mnemonic.Mnemonic.TheVariants as named
use Rattle.gpl_source_defs.specs.Mnemonics.{name_of}
use Rattle.base_defs.specs.Addresses.{in_grom_of}
use Rattle.gpl_defs.specs.declared.scratchpad.TheConstants.{SCRATCHPAD}

-- what an operand begins with
abbrev pub prefix : Space → Bool → List ℕ
prefix Cpu false = codes "@"
prefix Cpu true = codes "*"
prefix Vdp false = codes "V@"
prefix Vdp true = codes "V*"

-- The address that an operand shows. Profile: one of the processor's memory, as the address of each pointer, is held as
-- an offset from >8300.
abbrev pub shown_address : Space → Bool → ℕ → ℕ
shown_address Vdp false address = address
shown_address _ indirect address = (address + SCRATCHPAD) % 0x10000

abbrev pub index_text : Option ℕ → List ℕ
index_text None = []
index_text (Some index) = codes "(@" ++ (hex_word (SCRATCHPAD + index) ++ codes ")")

unfoldable pub operand_text : GplOperand → List ℕ
operand_text operand =
    prefix operand.space operand.indirect
    ++ (hex_word (shown_address operand.space operand.indirect operand.address) ++ index_text operand.index)

-- a value of words or of bytes
abbrev pub value_text : Bool → ℕ → List ℕ
value_text true value = hex_word value
value_text false value = hex_byte value

abbrev pub source_text : Bool → GplSource → List ℕ
source_text word (source.At operand) = operand_text operand
source_text word (source.Immediate value) = value_text word value

abbrev pub length_text : MoveLength → List ℕ
length_text (count.At operand) = operand_text operand
length_text (count.Immediate number) = hex_word number

abbrev pub target_text : MoveTarget → List ℕ
target_text (target.At operand) = operand_text operand
target_text (target.Register number) = codes "R@" ++ hex_byte number

abbrev pub from_text : MoveSource → List ℕ
from_text (from.At operand) = operand_text operand
from_text (from.Grom address) = codes "G@" ++ hex_word address
from_text (from.GromIndexed address index) = codes "G@" ++ (hex_word address ++ index_text (Some index))

abbrev pub mnemonic_of : GplInstr → Mnemonic
mnemonic_of (Plain op) = named.Plain op
mnemonic_of (Byte op value) = named.Byte op
mnemonic_of (Jump op to) = named.Jump op
mnemonic_of (Branch on offset) = named.Branch on
mnemonic_of (One op word at) = named.One op word
mnemonic_of (Two op word dst src) = named.Two op word
mnemonic_of (Move length target source) = named.Move

-- The operands of an instruction at an address. None where it has none.
-- GPL Programmer's Guide, the statements: the destination comes first.
-- Profile: MOVE has its length, then its target, then its source.
abbrev pub operands_text : GplInstr → ℕ → Option (List ℕ)
operands_text (Plain op) at = None
operands_text (Byte op value) at = Some (hex_byte value)
operands_text (Jump op to) at = Some (hex_word to)
operands_text (Branch on offset) at = Some (hex_word (in_grom_of at offset))
operands_text (One op word operand) at = Some (operand_text operand)
operands_text (Two op word dst src) at = Some (two_texts (operand_text dst) (source_text word src))
operands_text (Move length to source) at =
    Some (two_texts (length_text length) (two_texts (target_text to) (from_text source)))

unfoldable pub instr_text : GplInstr → ℕ → List ℕ
instr_text instr at = with_operands (name_of (mnemonic_of instr)) (operands_text instr at)

-- The text of what is read at an address, in whatever spelling it is there. Profile: where that is no instruction
-- it is BYTE and the byte.
abbrev pub read_text : GplRead → ℕ → List ℕ
read_text (Instr instr next) at = instr_text instr at
read_text (Refused code) at = codes "BYTE " ++ hex_byte code
