-- What is at an address of GROM.
use Rattle.std.specs.Prelude.{◌≡◌, ℕ, ◌/◌, ◌%◌, ◌==◌, ◌&&◌, Bool, true, false, nat_lt, if◌then◌else◌, List, [], ◌∷◌}
use Rattle.std.specs.Prelude.{slice_index, Option, Some, None}
use Rattle.tms_defs.specs.Words.{join}
use Rattle.tms_defs.specs.Status.{is_set}
use Rattle.base_defs.specs.Addresses.{next_in_grom}
use Rattle.gpl_defs.specs.declared.instruction.Space.{Space}
use Rattle.gpl_defs.specs.declared.instruction.Space.TheVariants.{Cpu, Vdp}
use Rattle.gpl_defs.specs.declared.instruction.GplOperand.{GplOperand}
use Rattle.gpl_defs.specs.declared.instruction.GplSource.{GplSource}
use Rattle.gpl_defs.specs.declared.instruction.GplSource.TheVariants as source
use Rattle.gpl_defs.specs.declared.instruction.MoveLength.{MoveLength}
use Rattle.gpl_defs.specs.declared.instruction.MoveLength.TheVariants as counted
use Rattle.gpl_defs.specs.declared.instruction.MoveTarget.{MoveTarget}
use Rattle.gpl_defs.specs.declared.instruction.MoveTarget.TheVariants as target
use Rattle.gpl_defs.specs.declared.instruction.MoveSource.{MoveSource}
use Rattle.gpl_defs.specs.declared.instruction.MoveSource.TheVariants as from
use Rattle.gpl_defs.specs.declared.instruction.MoveKind.{MoveKind}
use Rattle.gpl_defs.specs.declared.instruction.MoveKind.TheVariants.{GromIndexedToMemory, MemoryToMemory}
use Rattle.gpl_defs.specs.declared.instruction.MoveKind.TheVariants.{GromToRegisters}
use Rattle.gpl_defs.specs.declared.instruction.GplInstr.{GplInstr}
use Rattle.gpl_defs.specs.declared.instruction.GplInstr.TheVariants.{Plain, Byte, Jump, Branch, One, Two, Move}
use Rattle.gpl_defs.specs.declared.instruction.GplOperation.{GplOperation}
use Rattle.gpl_defs.specs.declared.instruction.GplOperation.TheVariants as operation
use Rattle.gpl_defs.specs.declared.instruction.GplRead.{GplRead}
use Rattle.gpl_defs.specs.declared.instruction.GplRead.TheVariants.{Instr, Refused}
use Rattle.gpl_defs.specs.Codes.{operation_at}
use Rattle.gpl_defs.specs.Bytes.{operation_of, bytes_of}
use Rattle.gpl_defs.specs.Spellings.{AreBytesAt, Means}

-- Something that is read from an address of an image on, with the address after its bytes.
abbrev pub Read : Type 0 → Type 0
Read A = List ℕ → ℕ → A × ℕ

-- a value for which no byte is read
abbrev pub give : {A : Type 0} → A → Read A
give value image at = (value, at)

-- one after the other
abbrev pub ◌>>=◌ : {A B : Type 0} → Read A → (A → Read B) → Read B
◌>>=◌ first next image at = let found = first image at in next found.0 image found.1

-- what is made of something that is read
abbrev pub read_as : {A B : Type 0} → (A → B) → Read A → Read B
read_as make read image at = let found = read image at in (make found.0, found.1)

abbrev pub byte_at : Read ℕ
byte_at image at = (slice_index image at, next_in_grom at)

-- the high byte of a word first
abbrev pub word_at : Read ℕ
word_at = do
  high ← byte_at
  low ← byte_at
  give (join high low)

abbrev pub space_of : Bool → Space
space_of true = Vdp
space_of false = Cpu

-- The low four bits of an operand's first byte begin its address, unless they are ones: then it follows in two bytes.
abbrev pub address_at : ℕ → Read ℕ
address_at first = if first % 16 == 15 then word_at else read_as (join (first % 16)) byte_at

abbrev pub index_by : Bool → Read (Option ℕ)
index_by true = read_as Some byte_at
index_by false = give None

abbrev pub plain_operand : ℕ → GplOperand
plain_operand address = record { space = Cpu; indirect = false; address = address; index = None }

-- An operand: a byte below >80 is an offset of the scratchpad; of another, the bits >40, >20 and >10 are an index,
-- video memory and an indirect address. The index comes last.
-- Profile: the bits of an operand's first byte, as `Bytes` writes them.
unfoldable pub operand_at : Read GplOperand
operand_at = do
  first ← byte_at
  if nat_lt first 0x80 then give (plain_operand first) else (do
    address ← address_at first
    index ← index_by (is_set first 0x40)
    give (record {
      space = space_of (is_set first 0x20);
      indirect = is_set first 0x10;
      address = address;
      index = index;
    }))

abbrev pub value_at : Bool → Read ℕ
value_at true = word_at
value_at false = byte_at

-- whether the source is immediate, and whether the operands are words
abbrev pub source_at : Bool → Bool → Read GplSource
source_at true word = read_as source.Immediate (value_at word)
source_at false word = read_as source.At operand_at

-- whether the length is immediate
abbrev pub length_at : Bool → Read MoveLength
length_at true = read_as counted.Immediate word_at
length_at false = read_as counted.At operand_at

abbrev pub target_at : MoveKind → Read MoveTarget
target_at GromToRegisters = read_as target.Register byte_at
target_at _ = read_as target.At operand_at

abbrev pub from_at : MoveKind → Read MoveSource
from_at MemoryToMemory = read_as from.At operand_at
from_at GromIndexedToMemory = do
  address ← word_at
  index ← byte_at
  give (from.GromIndexed address index)
from_at _ = read_as from.Grom word_at

-- GPL Programmer's Guide, MOVE: the length, then the target, then the source.
abbrev pub move_at : MoveKind → Bool → Read GplInstr
move_at kind immediate = do
  length ← length_at immediate
  target ← target_at kind
  source ← from_at kind
  give (Move length target source)

-- GPL Programmer's Guide, the statements: the low bit of a code byte is the form of words, the next an immediate
-- source; for MOVE the low bit is an immediate length, and for BR and BS the low five bits are the high ones of the
-- target.
abbrev pub instr_at : GplOperation → ℕ → Read GplInstr
instr_at (operation.Plain op) code = give (Plain op)
instr_at (operation.Byte op) code = read_as (Byte op) byte_at
instr_at (operation.Jump op) code = read_as (Jump op) word_at
instr_at (operation.Branch on) code = read_as (λ low. Branch on (join (code % 32) low)) byte_at
instr_at (operation.One op) code = read_as (One op (code % 2 == 1)) operand_at
instr_at (operation.Two op) code = do
  dst ← operand_at
  src ← source_at (code / 2 % 2 == 1) (code % 2 == 1)
  give (Two op (code % 2 == 1) dst src)
instr_at (operation.Move kind) code = move_at kind (code % 2 == 1)

abbrev pub read_by : Option GplOperation → ℕ → List ℕ → ℕ → GplRead
read_by None code image at = Refused code
read_by (Some operation) code image at = let found = instr_at operation code image at in Instr found.0 found.1

-- the instruction at an address with the address after it, or the code byte there where it is no instruction's
unfoldable pub reading : List ℕ → ℕ → GplRead
reading image at =
    read_by (operation_at (slice_index image at)) (slice_index image at) image (next_in_grom at)

-- whether these bytes begin at an address, one after the other in one GROM
abbrev pub are_bytes_at : List ℕ → List ℕ → ℕ → Bool
are_bytes_at image [] at = true
are_bytes_at image (byte ∷ bytes) at = (slice_index image at == byte) && are_bytes_at image bytes (next_in_grom at)

abbrev pub is_shortest_by : List ℕ → ℕ → GplRead → Bool
is_shortest_by image at (Instr instr next) = are_bytes_at image (bytes_of instr) at
is_shortest_by image at (Refused code) = false

-- whether an instruction is at an address in its shortest spelling
abbrev pub is_shortest : List ℕ → ℕ → Bool
is_shortest image at = is_shortest_by image at (reading image at)

-- an instruction that is read has the code byte there, and is what the bytes there mean
pub record ReadsInstr (image : List ℕ) (at : ℕ) (instr : GplInstr) (next : ℕ) : Type 0 where
  pub kept : operation_at (slice_index image at) ≡ Some (operation_of instr)
  pub means : Means image at instr next

-- a code byte that is refused is the one there, and belongs to no operation
pub record Refuses (image : List ℕ) (at code : ℕ) : Type 0 where
  pub there : slice_index image at ≡ code
  pub refused : operation_at code ≡ None

abbrev pub IsReadAt : List ℕ → ℕ → GplRead → Type 0
IsReadAt image at (Instr instr next) = ReadsInstr image at instr next
IsReadAt image at (Refused code) = Refuses image at code

-- wherever these bytes stand, they are read as the instruction
abbrev pub AreReadAs : GplInstr → List ℕ → Type 0
AreReadAs instr bytes =
    (image : List ℕ) (at next : ℕ) → AreBytesAt image bytes at next → reading image at ≡ Instr instr next
