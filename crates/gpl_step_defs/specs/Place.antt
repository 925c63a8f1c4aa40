-- Where the operands of an instruction lie, and what is there.
--
-- GPL Programmer's Guide, on the addressing of operands.
use Rattle.std.specs.Prelude.{ℕ, ◌+◌, ◌%◌, ◌==◌, Bool, true, false, not, ◌&&◌, nat_le, if◌then◌else◌, slice_index}
use Rattle.std.specs.Prelude.{Option, Some, None, Result, Ok, Err}
use Rattle.tms_defs.specs.Words.{join, plus}
use Rattle.tms_defs.specs.Bytes.{word_in}
use Rattle.tms_defs.specs.Flags.{Width, Byte, Word}
use Rattle.tms_defs.specs.MultiplyDivide.{double_word}
use Rattle.source_defs.specs.Refusals.{◌>>=◌}
use Rattle.gpl_defs.specs.declared.instruction.Space.{Space}
use Rattle.gpl_defs.specs.declared.instruction.Space.TheVariants.{Cpu, Vdp}
use Rattle.gpl_defs.specs.declared.instruction.GplOperand.{GplOperand}
use Rattle.gpl_step_defs.specs.declared.cells.TheConstants.{VISIBLE_CELLS, STATUS}
use Rattle.gpl_step_defs.specs.declared.reason.Reason.{Reason}
use Rattle.gpl_step_defs.specs.declared.reason.Reason.TheVariants.{Cell}
use Rattle.gpl_step_defs.specs.State.{GplState}

-- a space, and an offset from >8300 or a video address there
pub record Place : Type 0 where
  pub space : Space
  pub address : ℕ

-- a number of bytes after a place
abbrev pub further : ℕ → Place → Place
further bytes p = record p { address = plus p.address bytes }

-- So many cells from an offset on are visible. Profile: the sum is taken without wrap.
abbrev pub is_visible : ℕ → ℕ → Bool
is_visible bytes offset = nat_le (offset + bytes) VISIBLE_CELLS

-- the word of two visible cells
abbrev pub word_at : GplState → ℕ → ℕ
word_at s offset = word_in s.cells offset

-- An indirect operand's address is what the word at its offset says.
-- Profile: that word must be visible, and may not begin at the status.
abbrev pub pointed : GplState → Bool → ℕ → Result ℕ Reason
pointed s false address = Ok address
pointed s true address =
    if is_visible 2 address && not (address == STATUS) then Ok (word_at s address) else Err Cell

-- An index is the word at its offset, and is added to the address.
-- Profile: that word must be visible; it is added after the pointer is read, and the sum keeps 16 bits.
abbrev pub indexed : GplState → Option ℕ → ℕ → Result ℕ Reason
indexed s None address = Ok address
indexed s (Some offset) address = if is_visible 2 offset then Ok (plus address (word_at s offset)) else Err Cell

-- Profile: all the cells of an operand must be visible. Video memory has no such bounds.
abbrev pub ranged : ℕ → Space → ℕ → Result Place Reason
ranged bytes Cpu offset = if is_visible bytes offset then Ok (record { space = Cpu; address = offset }) else Err Cell
ranged bytes Vdp address = Ok (record { space = Vdp; address = address })

-- The place of an operand of a number of bytes. Profile: its pointer is checked first, then its index, then its range.
abbrev pub place_of : GplState → ℕ → GplOperand → Result Place Reason
place_of s bytes operand = do
  base ← pointed s operand.indirect operand.address
  address ← indexed s operand.index base
  ranged bytes operand.space address

-- Profile: video addresses wrap at 16,384 byte by byte.
abbrev pub byte_in : Space → GplState → ℕ → ℕ
byte_in Cpu s offset = slice_index s.cells offset
byte_in Vdp s address = slice_index s.vdp (address % 16384)

abbrev pub byte_at : GplState → Place → ℕ
byte_at s p = byte_in p.space s p.address

-- the number of a width at a place, its high byte first
abbrev pub value_at : GplState → Width → Place → ℕ
value_at s Byte p = byte_at s p
value_at s Word p = join (byte_at s p) (byte_at s (further 1 p))

-- the number of twice a width
abbrev pub double_at : GplState → Width → Place → ℕ
double_at s Byte p = value_at s Word p
double_at s Word p = double_word (value_at s Word p) (value_at s Word (further 2 p))
