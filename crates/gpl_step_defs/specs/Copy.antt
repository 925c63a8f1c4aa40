-- MOVE: a number of bytes go from one place to another. GPL Programmer's Guide, MOVE.
use Rattle.std.specs.Prelude.{ℕ, zero, suc, ◌+◌, nat_lt, nat_le, if◌then◌else◌, slice_index, Some, Result, Ok, Err}
use Rattle.tms_defs.specs.Flags.{Word}
use Rattle.base_defs.specs.Addresses.{next_in_grom}
use Rattle.source_defs.specs.Refusals.{◌>>=◌}
use Rattle.gpl_defs.specs.declared.instruction.MoveLength.{MoveLength}
use Rattle.gpl_defs.specs.declared.instruction.MoveLength.TheVariants as counted
use Rattle.gpl_defs.specs.declared.instruction.MoveTarget.{MoveTarget}
use Rattle.gpl_defs.specs.declared.instruction.MoveTarget.TheVariants as target
use Rattle.gpl_defs.specs.declared.instruction.MoveSource.{MoveSource}
use Rattle.gpl_defs.specs.declared.instruction.MoveSource.TheVariants as source
use Rattle.gpl_step_defs.specs.declared.reason.Reason.{Reason}
use Rattle.gpl_step_defs.specs.declared.reason.Reason.TheVariants.{Length, Register}
use Rattle.gpl_step_defs.specs.State.{GplState}
use Rattle.gpl_step_defs.specs.Place.{Place, further, place_of, indexed, byte_at, value_at}
use Rattle.gpl_step_defs.specs.Changes.{Changes, with_byte, with_register}
use Rattle.gpl_step_defs.specs.declared.limits.TheConstants.{MOST_MOVED, VIDEO_REGISTERS}

-- Where the next byte comes from: memory, or GROM. Where it goes: memory, or the video processor's registers.
pub data From : Type 0 where
  FromMemory : Place → From
  FromGrom : ℕ → From

pub data To : Type 0 where
  ToMemory : Place → To
  ToRegisters : ℕ → To

-- Profile: a length in memory is a word.
abbrev pub length_of : GplState → MoveLength → Result ℕ Reason
length_of s (counted.At operand) = place_of s 2 operand >>= λ p. Ok (value_at s Word p)
length_of s (counted.Immediate count) = Ok count

-- Profile: at most 16,384 bytes are copied; 0 is a length too.
abbrev pub within_limit : ℕ → Result ℕ Reason
within_limit bytes = if nat_lt MOST_MOVED bytes then Err Length else Ok bytes

-- Profile: the number of the first register and the length together are at most 8.
abbrev pub target_of : GplState → ℕ → MoveTarget → Result To Reason
target_of s bytes (target.At operand) = place_of s bytes operand >>= λ p. Ok (ToMemory p)
target_of s bytes (target.Register number) =
    if nat_le (number + bytes) VIDEO_REGISTERS then Ok (ToRegisters number) else Err Register

-- Profile: an index adds a word to the address in GROM, in 16 bits.
abbrev pub origin_of : GplState → ℕ → MoveSource → Result From Reason
origin_of s bytes (source.At operand) = place_of s bytes operand >>= λ p. Ok (FromMemory p)
origin_of s bytes (source.Grom address) = Ok (FromGrom address)
origin_of s bytes (source.GromIndexed address index) =
    indexed s (Some index) address >>= λ address. Ok (FromGrom address)

abbrev pub byte_from : From → GplState → ℕ
byte_from (FromMemory p) s = byte_at s p
byte_from (FromGrom address) s = slice_index s.image address

-- what follows in memory, in the same GROM, and among the registers
abbrev pub next_from : From → From
next_from (FromMemory p) = FromMemory (further 1 p)
next_from (FromGrom address) = FromGrom (next_in_grom address)

abbrev pub with_byte_to : To → ℕ → Changes → Changes
with_byte_to (ToMemory p) byte c = with_byte p byte c
with_byte_to (ToRegisters number) byte c = with_register number byte c

abbrev pub next_to : To → To
next_to (ToMemory p) = ToMemory (further 1 p)
next_to (ToRegisters number) = ToRegisters (number + 1)

-- Profile: the bytes go upward one by one, so that a byte that was copied may be copied again.
abbrev pub copied : ℕ → From → To → Changes → Changes
copied zero from to c = c
copied (suc bytes) from to c = copied bytes (next_from from) (next_to to) (with_byte_to to (byte_from from c.state) c)

-- What a MOVE copies: how many bytes, where they go and where they come from.
pub record Moving : Type 0 where
  pub bytes : ℕ
  pub to : To
  pub from : From

-- Profile: the length is checked first, then the target, then the source, as their bytes stand.
abbrev pub move_found : MoveLength → MoveTarget → MoveSource → GplState → Result Moving Reason
move_found length target source s = do
  count ← length_of s length
  bytes ← within_limit count
  to ← target_of s bytes target
  from ← origin_of s bytes source
  Ok (record { bytes = bytes; to = to; from = from })

abbrev pub moved : MoveLength → MoveTarget → MoveSource → Changes → Result Changes Reason
moved length target source c =
    move_found length target source c.state >>= λ found. Ok (copied found.bytes found.from found.to c)
