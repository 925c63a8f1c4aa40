-- The spellings of an instruction, and what the bytes at an address mean.
use Rattle.std.specs.Prelude.{◌≡◌, ◌≤◌, ℕ, Bool, true, IsTrue, List, [], ◌∷◌, ◌++◌, length, slice_index}
use Rattle.tms_defs.specs.Words.{low}
use Rattle.base_defs.specs.Addresses.{next_in_grom}
use Rattle.gpl_defs.specs.declared.instruction.GplOperand.{GplOperand}
use Rattle.gpl_defs.specs.declared.instruction.GplSource.{GplSource}
use Rattle.gpl_defs.specs.declared.instruction.GplSource.TheVariants as source
use Rattle.gpl_defs.specs.declared.instruction.MoveLength.{MoveLength}
use Rattle.gpl_defs.specs.declared.instruction.MoveLength.TheVariants as count
use Rattle.gpl_defs.specs.declared.instruction.MoveTarget.{MoveTarget}
use Rattle.gpl_defs.specs.declared.instruction.MoveTarget.TheVariants as target
use Rattle.gpl_defs.specs.declared.instruction.MoveSource.{MoveSource}
use Rattle.gpl_defs.specs.declared.instruction.MoveSource.TheVariants as from
use Rattle.gpl_defs.specs.declared.instruction.GplInstr.{GplInstr}
use Rattle.gpl_defs.specs.declared.instruction.GplInstr.TheVariants.{Plain, Byte, Jump, Branch, One, Two, Move}
use Rattle.gpl_defs.specs.Bytes.{
  in_one_byte,
  in_twelve_bits,
  in_sixteen_bits,
  fits_one_byte,
  fits_twelve_bits,
  word_bytes,
  value_bytes,
  from_bytes,
  code_of,
}
use Rattle.gpl_defs.specs.Valid.{is_valid}

-- how the address of an operand is written
pub data Spelling : Type 0 where
  OneByte : Spelling
  TwelveBits : Spelling
  SixteenBits : Spelling

abbrev pub may_have : Spelling → GplOperand → Bool
may_have OneByte operand = fits_one_byte operand
may_have TwelveBits operand = fits_twelve_bits operand
may_have SixteenBits operand = true

abbrev pub spelled : Spelling → GplOperand → List ℕ
spelled OneByte operand = in_one_byte operand
spelled TwelveBits operand = in_twelve_bits operand
spelled SixteenBits operand = in_sixteen_bits operand

-- bytes that spell an operand, in any of the ways it may be spelled
pub record SpellsOperand (operand : GplOperand) (bytes : List ℕ) : Type 0 where
  pub spelling : Spelling
  pub allowed : IsTrue (may_have spelling operand)
  pub is : bytes ≡ spelled spelling operand

-- bytes of one kind and after them bytes of another
pub record Joined (First Second : List ℕ → Type 0) (bytes : List ℕ) : Type 0 where
  pub first : List ℕ
  pub second : List ℕ
  pub is_first : First first
  pub is_second : Second second
  pub is : bytes ≡ first ++ second

abbrev pub SpellsSource : Bool → GplSource → List ℕ → Type 0
SpellsSource word (source.At operand) bytes = SpellsOperand operand bytes
SpellsSource word (source.Immediate value) bytes = bytes ≡ value_bytes word value

abbrev pub SpellsLength : MoveLength → List ℕ → Type 0
SpellsLength (count.At operand) bytes = SpellsOperand operand bytes
SpellsLength (count.Immediate number) bytes = bytes ≡ word_bytes number

abbrev pub SpellsTarget : MoveTarget → List ℕ → Type 0
SpellsTarget (target.At operand) bytes = SpellsOperand operand bytes
SpellsTarget (target.Register number) bytes = bytes ≡ number ∷ []

abbrev pub SpellsFrom : MoveSource → List ℕ → Type 0
SpellsFrom (from.At operand) bytes = SpellsOperand operand bytes
SpellsFrom (from.Grom address) bytes = bytes ≡ from_bytes (from.Grom address)
SpellsFrom (from.GromIndexed address index) bytes = bytes ≡ from_bytes (from.GromIndexed address index)

-- The bytes after the code byte. GPL Programmer's Guide, the statements: the destination comes first.
-- Profile: MOVE has its length, then its target, then its source.
abbrev pub SpellsRest : GplInstr → List ℕ → Type 0
SpellsRest (Plain op) bytes = bytes ≡ []
SpellsRest (Byte op value) bytes = bytes ≡ value ∷ []
SpellsRest (Jump op to) bytes = bytes ≡ word_bytes to
SpellsRest (Branch on offset) bytes = bytes ≡ low offset ∷ []
SpellsRest (One op word at) bytes = SpellsOperand at bytes
SpellsRest (Two op word dst src) bytes = Joined (SpellsOperand dst) (SpellsSource word src) bytes
SpellsRest (Move length target source) bytes =
    Joined (SpellsLength length) (Joined (SpellsTarget target) (SpellsFrom source)) bytes

-- bytes that spell a valid instruction: its code byte, and the operands in any of their spellings
pub record Spells (instr : GplInstr) (bytes : List ℕ) : Type 0 where
  pub valid : IsTrue (is_valid instr)
  pub rest : List ℕ
  pub is_rest : SpellsRest instr rest
  pub is : bytes ≡ code_of instr ∷ rest

-- From an address on stand these bytes, and another address is the one after them. They follow one another in one GROM:
-- after the last address of a GROM comes its first. GPL Programmer's Guide, on the GROM address counter.
abbrev pub AreBytesAt : List ℕ → List ℕ → ℕ → ℕ → Type 0
AreBytesAt image [] at next = at ≡ next
AreBytesAt image (byte ∷ bytes) at next = (slice_index image at ≡ byte) × AreBytesAt image bytes (next_in_grom at) next

-- from an address up to another stand bytes of a kind
pub record Holds (Kind : List ℕ → Type 0) (image : List ℕ) (at next : ℕ) : Type 0 where
  pub bytes : List ℕ
  pub is_kind : Kind bytes
  pub are_bytes_at : AreBytesAt image bytes at next

-- what the bytes at an address mean: the instruction that they spell, and the address after them
abbrev pub Means : List ℕ → ℕ → GplInstr → ℕ → Type 0
Means image at instr next = Holds (Spells instr) image at next

-- the shortest spelling of an instruction: no other has fewer bytes, or as few
pub record IsShortest (instr : GplInstr) (bytes : List ℕ) : Type 0 where
  pub spells : Spells instr bytes
  pub fewest : (other : List ℕ) → Spells instr other → length bytes ≤ length other
  pub alone : (other : List ℕ) → Spells instr other → length other ≡ length bytes → other ≡ bytes

-- The law, which is proved: what is at an address means one instruction at most.
abbrev pub OneMeaning : Type 0
OneMeaning =
    (image : List ℕ) (at : ℕ) (instr other : GplInstr) (next after : ℕ) → Means image at instr next →
    Means image at other after → (other ≡ instr) × (after ≡ next)
