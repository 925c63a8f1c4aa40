-- Shifts of a word by a count from 1 to 16.
use Rattle.std.specs.Prelude.{ℕ, zero, suc, pos, ◌+◌, ◌-◌, ◌*◌, ◌/◌, ◌%◌, ◌^◌, ◌*ℤ◌, Bool, false, not, ◌||◌, ◌==◌}
use Rattle.std.specs.Prelude.{nat_lt, if◌then◌else◌}
use Rattle.tms_defs.specs.declared.flags.Flags.{Flags}
use Rattle.tms_defs.specs.declared.instruction.ShiftOp.{ShiftOp}
use Rattle.tms_defs.specs.declared.instruction.ShiftOp.TheVariants.{SRA, SRL, SLA, SRC}
use Rattle.tms_defs.specs.Flags.{Word, signed, leaves_range, result_flags}

-- A count of 0 in the low four bits of register 0 is sixteen. TMS9900 data manual, "Shift instructions".
abbrev pub count_in : ℕ → ℕ
count_in word = if word % 16 == 0 then 16 else word % 16

-- The sixteen bits that come in from the left as a word is shifted to the right: copies of its sign bit, zeros, or
-- the word itself. TMS9900 data manual, "Shift right arithmetic", "Shift right logical", "Shift right circular".
abbrev pub from_the_left : ShiftOp → ℕ → ℕ
from_the_left SRA word = if nat_lt word 0x8000 then 0 else 0xFFFF
from_the_left SRL word = 0
from_the_left SLA word = 0
from_the_left SRC word = word

-- A word with those bits before it.
abbrev pub long_word : ShiftOp → ℕ → ℕ
long_word op word = 65536 * from_the_left op word + word

-- The shifted word. TMS9900 data manual, "Shift instructions".
abbrev pub shifted : ShiftOp → ℕ → ℕ → ℕ
shifted SLA word count = word * 2 ^ count % 65536
shifted op word count = long_word op word / 2 ^ count % 65536

-- C: the last bit that was shifted out. TMS9900 data manual, "Shift instructions".
abbrev pub last_out : ShiftOp → ℕ → ℕ → Bool
last_out SLA word count = word * 2 ^ count / 65536 % 2 == 1
last_out op word count = long_word op word / 2 ^ (count - 1) % 2 == 1

-- OV: the exact signed number, doubled once for each place of a shift to the left, has no place in a word. The other
-- shifts give false. TMS9900 data manual, "Shift left arithmetic".
abbrev pub shift_overflows : ShiftOp → ℕ → ℕ → Bool
shift_overflows SLA word count = leaves_range Word (signed Word word *ℤ pos (2 ^ count))
shift_overflows op word count = false

-- The sign bit after some places of a shift to the left.
abbrev pub sign_after : ℕ → ℕ → ℕ
sign_after word places = word * 2 ^ places / 32768 % 2

-- The manual's rule, which says the same as `shift_overflows` of SLA: the sign bit changes at some moment of the shift.
-- TMS9900 data manual, "Shift left arithmetic".
abbrev pub sign_changes : ℕ → ℕ → Bool
sign_changes word zero = false
sign_changes word (suc places) =
    sign_changes word places || not (sign_after word (suc places) == sign_after word 0)

-- The status bits of a shift: L>, A> and EQ by the result. TMS9900 data manual, "Shift instructions".
abbrev pub shift_flags : ShiftOp → ℕ → ℕ → Flags
shift_flags op word count =
    result_flags Word (shifted op word count) (last_out op word count) (shift_overflows op word count)

-- The status bits after a shift: only SLA sets OV, and the other shifts leave it.
-- TMS9900 data manual, "Shift instructions".
abbrev pub by_shift : ShiftOp → ℕ → ℕ → Flags → Flags
by_shift SLA word count flags = shift_flags SLA word count
by_shift op word count flags = record (shift_flags op word count) { ov = flags.ov }
