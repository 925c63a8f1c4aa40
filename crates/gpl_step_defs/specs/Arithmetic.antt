-- What instructions make of the values of their operands. Profile: MUL and DIV take numbers without sign.
use Rattle.std.specs.Prelude.{ℕ, ◌+◌, ◌*◌, ◌/◌, ◌%◌, ◌^◌, ◌==◌, Bool, true, false, ◌&&◌, nat_lt, nat_le, int_lt, int_le}
use Rattle.std.specs.Prelude.{bit_and, if◌then◌else◌}
use Rattle.std.specs.Prelude.{Option, Some, None}
use Rattle.tms_defs.specs.declared.flags.Flags.{Flags}
use Rattle.tms_defs.specs.Words.{join}
use Rattle.tms_defs.specs.Flags.{
  Width,
  Byte,
  Word,
  modulus,
  half,
  size_of,
  signed,
  sum_of,
  sum_flags,
  difference_of,
  difference_flags,
  negation_of,
  negation_flags,
  absolute_of,
  absolute_flags,
}
use Rattle.tms_defs.specs.Logic.{ones_set, conjunction_of, exclusive_or_of}
use Rattle.gpl_defs.specs.declared.instruction.TwoName.{TwoName}
use Rattle.gpl_defs.specs.declared.instruction.TwoName.TheVariants.{
  ADD,
  SUB,
  MUL,
  DIV,
  AND,
  OR,
  XOR,
  ST,
  EX,
  CH,
  CHE,
  CGT,
  CGE,
  CEQ,
  CLOG,
  SRA,
  SLL,
  SRL,
  SRC,
}
use Rattle.gpl_step_defs.specs.Place.{Place, further, double_at}
use Rattle.gpl_step_defs.specs.Changes.{Changes, with_value, with_double, with_flags, with_condition, with_overflow}

-- A result with the status bits that the processor's operation has at that width.
-- Profile: the result is stored first, then the status.
abbrev pub with_result : Width → Place → ℕ → Flags → Changes → Changes
with_result width at number flags c = with_flags flags (with_value width at number c)

-- The sum of two values is stored at a place, and the status has its flags.
-- GPL Programmer's Guide, the statements for sums and differences.
abbrev pub added : Width → Place → ℕ → ℕ → Changes → Changes
added width at x y c = with_result width at (sum_of width x y) (sum_flags width x y) c

abbrev pub subtracted : Width → Place → ℕ → ℕ → Changes → Changes
subtracted width at x y c = with_result width at (difference_of width x y) (difference_flags width x y) c

-- GPL Programmer's Guide, "Negate", "Absolute value".
abbrev pub negated : Width → Place → ℕ → Changes → Changes
negated width at x c = with_result width at (negation_of width x) (negation_flags width x) c

abbrev pub made_absolute : Width → Place → ℕ → Changes → Changes
made_absolute width at x c = with_result width at (absolute_of width x) (absolute_flags width x) c

-- GPL Programmer's Guide, "Multiply": the product has twice the width.
abbrev pub multiplied : Width → Place → ℕ → ℕ → Changes → Changes
multiplied width at x y c = with_double width at (x * y) c

-- The quotient fits. Profile: none does where the divisor is 0.
abbrev pub has_quotient : Width → ℕ → ℕ → Bool
has_quotient width dividend divisor = nat_lt 0 divisor && nat_lt (dividend / divisor) (modulus width)

abbrev pub with_quotient : Width → Place → ℕ → ℕ → Changes → Changes
with_quotient width at quotient remainder c =
    with_value width (further (size_of width) at) remainder (with_value width at quotient c)

-- GPL Programmer's Guide, "Divide": the quotient, and after it the remainder.
-- Profile: OVF is cleared; where the quotient does not fit it is set, and nothing else changes.
abbrev pub divided : Width → Place → ℕ → ℕ → Changes → Changes
divided width at dividend divisor c =
    if has_quotient width dividend divisor
    then with_overflow false (with_quotient width at (dividend / divisor) (dividend % divisor) c)
    else with_overflow true c

-- The bits that come in from the left as a number is shifted to the right: copies of its sign bit, zeros, or copies of
-- the number. GPL Programmer's Guide, the shifts.
-- Profile: a byte is shifted in eight bits, and SRC turns to the right.
abbrev pub repeated_sign : Width → ℕ → ℕ
repeated_sign width number = if nat_lt number (half width) then 0 else 0xFFFF

abbrev pub repeated : Width → ℕ → ℕ
repeated Byte number = join number number
repeated Word number = number

abbrev pub shifted_right : Width → ℕ → ℕ → ℕ → ℕ
shifted_right width from_the_left number count = (modulus width * from_the_left + number) / 2 ^ count % modulus width

abbrev pub shifted_left : Width → ℕ → ℕ → ℕ
shifted_left width number count = number * 2 ^ count % modulus width

-- Profile: the count is the low four bits of the source; 0 keeps the value.
abbrev pub count_of : ℕ → ℕ
count_of source = source % 16

-- The second operand: its value, and where that stands if it is in memory.
pub record Source : Type 0 where
  pub number : ℕ
  pub place : Option Place

-- GPL Programmer's Guide, "Exchange".
-- Profile: the source's value is stored first, then the old destination.
abbrev pub exchanged : Width → Place → ℕ → Source → Option Place → Changes → Changes
exchanged width at old source None c = with_value width at source.number c
exchanged width at old source (Some place) c = with_value width place old (with_value width at source.number c)

-- The operations on two operands: the destination's place, its value, and the source.
-- GPL Programmer's Guide, the statements with two operands.
-- Profile: which status bits they set; comparisons set COND or clear it, and change no other bit.
abbrev pub two : TwoName → Width → Place → ℕ → Source → Changes → Changes
two ADD width at x source c = added width at x source.number c
two SUB width at x source c = subtracted width at x source.number c
two MUL width at x source c = multiplied width at x source.number c
two DIV width at x source c = divided width at (double_at c.state width at) source.number c
two AND width at x source c = with_value width at (conjunction_of x source.number) c
two OR width at x source c = with_value width at (ones_set x source.number) c
two XOR width at x source c = with_value width at (exclusive_or_of x source.number) c
two ST width at x source c = with_value width at source.number c
two EX width at x source c = exchanged width at x source source.place c
two CH width at x source c = with_condition (nat_lt source.number x) c
two CHE width at x source c = with_condition (nat_le source.number x) c
two CGT width at x source c = with_condition (int_lt (signed width source.number) (signed width x)) c
two CGE width at x source c = with_condition (int_le (signed width source.number) (signed width x)) c
two CEQ width at x source c = with_condition (x == source.number) c
two CLOG width at x source c = with_condition (bit_and x source.number == 0) c
two SRA width at x source c =
    with_value width at (shifted_right width (repeated_sign width x) x (count_of source.number)) c
two SLL width at x source c = with_value width at (shifted_left width x (count_of source.number)) c
two SRL width at x source c = with_value width at (shifted_right width 0 x (count_of source.number)) c
two SRC width at x source c = with_value width at (shifted_right width (repeated width x) x (count_of source.number)) c
