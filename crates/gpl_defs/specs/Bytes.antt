-- The bytes of an instruction in its shortest spelling.
use Rattle.std.specs.Prelude.{ℕ, ◌<◌, ◌+◌, ◌*◌, ◌&&◌, not, Bool, true, false, nat_lt, if◌then◌else◌, List, [], ◌∷◌}
use Rattle.std.specs.Prelude.{◌++◌}
use Rattle.std.specs.Prelude.{Option, Some, None, is_some, is_none}
use Rattle.tms_defs.specs.Words.{high, low}
use Rattle.gpl_defs.specs.declared.instruction.Space.{Space}
use Rattle.gpl_defs.specs.declared.instruction.Space.TheVariants.{Cpu, Vdp}
use Rattle.gpl_defs.specs.declared.instruction.GplOperand.{GplOperand}
use Rattle.gpl_defs.specs.declared.instruction.GplSource.{GplSource}
use Rattle.gpl_defs.specs.declared.instruction.GplSource.TheVariants as source
use Rattle.gpl_defs.specs.declared.instruction.MoveLength.{MoveLength}
use Rattle.gpl_defs.specs.declared.instruction.MoveLength.TheVariants as counted
use Rattle.gpl_defs.specs.declared.instruction.MoveTarget.{MoveTarget}
use Rattle.gpl_defs.specs.declared.instruction.MoveTarget.TheVariants as target
use Rattle.gpl_defs.specs.declared.instruction.MoveSource.{MoveSource}
use Rattle.gpl_defs.specs.declared.instruction.MoveSource.TheVariants as from
use Rattle.gpl_defs.specs.declared.instruction.MoveKind.{MoveKind}
use Rattle.gpl_defs.specs.declared.instruction.MoveKind.TheVariants.{
  GromToMemory,
  GromIndexedToMemory,
  MemoryToMemory,
  GromToRegisters,
}
use Rattle.gpl_defs.specs.declared.instruction.GplInstr.{GplInstr}
use Rattle.gpl_defs.specs.declared.instruction.GplInstr.TheVariants.{Plain, Byte, Jump, Branch, One, Two, Move}
use Rattle.gpl_defs.specs.declared.instruction.GplOperation.{GplOperation}
use Rattle.gpl_defs.specs.declared.instruction.GplOperation.TheVariants as operation
use Rattle.gpl_defs.specs.Codes.{row_of}
use Rattle.base_defs.specs.Counts.{one_if}

abbrev pub is_vdp : Space → Bool
is_vdp Cpu = false
is_vdp Vdp = true

-- The bits of an operand's first byte that say what it is: the highest distinguishes it from an operand of one byte;
-- then follow whether it has an index, lies in video memory, and is indirect.
-- Profile: the bits of these forms.
abbrev pub form_bits : GplOperand → ℕ
form_bits operand =
    0x80 + one_if (is_some operand.index) * 0x40 + one_if (is_vdp operand.space) * 0x20 + one_if operand.indirect * 0x10

-- Profile: the index byte is at the end of its operand.
abbrev pub index_bytes : Option ℕ → List ℕ
index_bytes None = []
index_bytes (Some index) = index ∷ []

-- Profile: an operand's spellings. A plain one below >80, which is at an offset from >8300 and has no index, may have
-- one byte. One below >0F00 may have its address in twelve bits, the high four in the first byte. Each may have it in
-- the two bytes after a first byte whose low four bits are ones.
abbrev pub in_one_byte : GplOperand → List ℕ
in_one_byte operand = operand.address ∷ []

abbrev pub in_twelve_bits : GplOperand → List ℕ
in_twelve_bits operand =
    (form_bits operand + high operand.address) ∷ low operand.address ∷ index_bytes operand.index

abbrev pub in_sixteen_bits : GplOperand → List ℕ
in_sixteen_bits operand =
    (form_bits operand + 15) ∷ high operand.address ∷ low operand.address ∷ index_bytes operand.index

abbrev pub fits_one_byte : GplOperand → Bool
fits_one_byte operand =
    not (is_vdp operand.space) && (not operand.indirect && (is_none operand.index && nat_lt operand.address 0x80))

abbrev pub fits_twelve_bits : GplOperand → Bool
fits_twelve_bits operand = nat_lt operand.address 0x0F00

-- the first of them that may stand
abbrev pub operand_bytes : GplOperand → List ℕ
operand_bytes operand =
    if fits_one_byte operand then in_one_byte operand
    else if fits_twelve_bits operand then in_twelve_bits operand
    else in_sixteen_bits operand

-- GPL Programmer's Guide, the statements: the high byte of a word first
abbrev pub word_bytes : ℕ → List ℕ
word_bytes word = high word ∷ low word ∷ []

-- GPL Programmer's Guide, the statements with two operands: an immediate value is a byte or a word as the operands are.
abbrev pub value_bytes : Bool → ℕ → List ℕ
value_bytes true value = word_bytes value
value_bytes false value = value ∷ []

-- An immediate value of bytes is a byte. GPL Programmer's Guide, the statements with two operands.
abbrev pub FitsSource : Bool → GplSource → Type 0
FitsSource true src = Unit {0}
FitsSource false (source.At operand) = Unit {0}
FitsSource false (source.Immediate value) = value < 256

abbrev pub source_bytes : Bool → GplSource → List ℕ
source_bytes word (source.At operand) = operand_bytes operand
source_bytes word (source.Immediate value) = value_bytes word value

-- Profile: an immediate length is a word.
abbrev pub length_bytes : MoveLength → List ℕ
length_bytes (counted.At operand) = operand_bytes operand
length_bytes (counted.Immediate count) = word_bytes count

-- Profile: a register is one byte, its number.
abbrev pub target_bytes : MoveTarget → List ℕ
target_bytes (target.At operand) = operand_bytes operand
target_bytes (target.Register number) = number ∷ []

-- Profile: a place in GROM is its address in two bytes, and its index byte follows them.
abbrev pub from_bytes : MoveSource → List ℕ
from_bytes (from.At operand) = operand_bytes operand
from_bytes (from.Grom address) = word_bytes address
from_bytes (from.GromIndexed address index) = word_bytes address ++ index ∷ []

abbrev pub kind_of : MoveTarget → MoveSource → MoveKind
kind_of (target.Register number) source = GromToRegisters
kind_of (target.At operand) (from.Grom address) = GromToMemory
kind_of (target.At operand) (from.GromIndexed address index) = GromIndexedToMemory
kind_of (target.At operand) (from.At place) = MemoryToMemory

-- the row of the table of codes
abbrev pub operation_of : GplInstr → GplOperation
operation_of (Plain op) = operation.Plain op
operation_of (Byte op value) = operation.Byte op
operation_of (Jump op to) = operation.Jump op
operation_of (Branch on offset) = operation.Branch on
operation_of (One op word at) = operation.One op
operation_of (Two op word dst src) = operation.Two op
operation_of (Move length target source) = operation.Move (kind_of target source)

abbrev pub is_immediate : GplSource → Bool
is_immediate (source.At operand) = false
is_immediate (source.Immediate value) = true

abbrev pub is_counted : MoveLength → Bool
is_counted (counted.At operand) = false
is_counted (counted.Immediate count) = true

-- Which of the code bytes of its row an instruction has, counted from 0.
-- GPL Programmer's Guide, the statements with one operand, with two operands, BR and BS.
-- Profile: MOVE with an immediate length has the second of its two.
abbrev pub variant_of : GplInstr → ℕ
variant_of (Branch on offset) = high offset
variant_of (One op word at) = one_if word
variant_of (Two op word dst src) = one_if (is_immediate src) * 2 + one_if word
variant_of (Move length target source) = one_if (is_counted length)
variant_of _ = 0

abbrev pub code_of : GplInstr → ℕ
code_of instr = (row_of (operation_of instr)).code + variant_of instr

-- The bytes after the code byte. GPL Programmer's Guide, the statements: the destination comes first.
-- Profile: MOVE has its length, then its target, then its source.
abbrev pub rest_of : GplInstr → List ℕ
rest_of (Plain op) = []
rest_of (Byte op value) = value ∷ []
rest_of (Jump op to) = word_bytes to
rest_of (Branch on offset) = low offset ∷ []
rest_of (One op word at) = operand_bytes at
rest_of (Two op word dst src) = operand_bytes dst ++ source_bytes word src
rest_of (Move length target source) = length_bytes length ++ (target_bytes target ++ from_bytes source)

-- the bytes of a valid instruction, as few as it can have
abbrev pub bytes_of : GplInstr → List ℕ
bytes_of instr = code_of instr ∷ rest_of instr
