-- Widths of operands, sums, differences and comparisons, and the status bits that they set.
use Rattle.std.specs.Prelude.{ℕ, ℤ, pos, ◌+◌, ◌-◌, ◌%◌, ◌+ℤ◌, ◌-ℤ◌, unsigned_abs, count_ones}
use Rattle.std.specs.Prelude.{Bool, true, false, not, ◌&&◌, ◌||◌, ◌==◌, nat_lt, nat_le, int_lt, int_le}
use Rattle.std.specs.Prelude.{if◌then◌else◌}
use Rattle.tms_defs.specs.declared.flags.Flags.{Flags}

-- The widths of operands. TMS9900 data manual, "Registers and memory".
pub data Width : Type 0 where
  Byte : Width
  Word : Width

-- The width of an instruction's operands: true is the form of bytes.
abbrev pub byte_or_word : Bool → Width
byte_or_word true = Byte
byte_or_word false = Word

-- One past the largest number of a width.
abbrev pub modulus : Width → ℕ
modulus Byte = 256
modulus Word = 65536

-- The least number whose sign bit is set.
abbrev pub half : Width → ℕ
half Byte = 128
half Word = 32768

-- The bytes of an operand.
abbrev pub size_of : Width → ℕ
size_of Byte = 1
size_of Word = 2

-- The signed number that stands for a number, in two's complement.
abbrev pub signed : Width → ℕ → ℤ
signed width number = if nat_lt number (half width) then pos number else pos number -ℤ pos (modulus width)

-- An exact signed number has no place in the width.
abbrev pub leaves_range : Width → ℤ → Bool
leaves_range width exact = int_lt exact (pos 0 -ℤ pos (half width)) || int_le (pos (half width)) exact

-- L>, A> and EQ by a result: it is compared with 0, as a number, as a signed number, and for equality.
-- TMS9900 data manual, "Status register".
abbrev pub by_result : Width → ℕ → Flags → Flags
by_result width number flags =
    record flags { lgt = nat_lt 0 number; agt = int_lt (pos 0) (signed width number); eq = number == 0 }

-- The five status bits of an operation: L>, A> and EQ by a result, with its C and OV.
abbrev pub result_flags : Width → ℕ → Bool → Bool → Flags
result_flags width number carry overflow =
    by_result width number (record { lgt = false; agt = false; eq = false; c = carry; ov = overflow })

-- OP: a byte has an odd number of ones. TMS9900 data manual, "Status register".
abbrev pub has_odd_parity : ℕ → Bool
has_odd_parity byte = count_ones byte % 2 == 1

-- Addition: the exact sum, kept to the width.
abbrev pub sum_of : Width → ℕ → ℕ → ℕ
sum_of width destination source = (destination + source) % modulus width

-- C: the exact sum is not below the modulus. TMS9900 data manual, "Status register".
abbrev pub sum_carries : Width → ℕ → ℕ → Bool
sum_carries width destination source = nat_le (modulus width) (destination + source)

-- OV: the exact sum of the signed numbers has no place in the width. TMS9900 data manual, "Status register".
abbrev pub sum_overflows : Width → ℕ → ℕ → Bool
sum_overflows width destination source =
    leaves_range width (signed width destination +ℤ signed width source)

-- The sign bit of a number is set. TMS9900 data manual, "Registers and memory".
abbrev pub is_negative : Width → ℕ → Bool
is_negative width number = nat_le (half width) number

-- Two sign bits differ.
abbrev pub differ : Bool → Bool → Bool
differ true second = not second
differ false second = second

-- The manual's rule, which says the same as `sum_overflows`: the operands have one sign, and the sum has the other.
-- TMS9900 data manual, "Status register".
abbrev pub sum_has_wrong_sign : Width → ℕ → ℕ → Bool
sum_has_wrong_sign width destination source =
    not (differ (is_negative width destination) (is_negative width source))
    && differ (is_negative width destination) (is_negative width (sum_of width destination source))

-- The status bits of an addition; it sets all five.
-- TMS9900 data manual, "Add words", "Add bytes", "Add immediate", "Increment", "Increment by two".
abbrev pub sum_flags : Width → ℕ → ℕ → Flags
sum_flags width destination source =
    result_flags width (sum_of width destination source)
    (sum_carries width destination source)
    (sum_overflows width destination source)

-- Subtraction: the exact difference, kept to the width.
abbrev pub difference_of : Width → ℕ → ℕ → ℕ
difference_of width destination source = (destination + (modulus width - source)) % modulus width

-- C: there is no borrow. TMS9900 data manual, "Status register".
abbrev pub difference_carries : ℕ → ℕ → Bool
difference_carries destination source = nat_le source destination

-- OV: the exact difference of the signed numbers has no place in the width.
-- TMS9900 data manual, "Status register".
abbrev pub difference_overflows : Width → ℕ → ℕ → Bool
difference_overflows width destination source =
    leaves_range width (signed width destination -ℤ signed width source)

-- The manual's rule, which says the same as `difference_overflows`: the operands have different signs, and the
-- difference has not the destination's. TMS9900 data manual, "Status register".
abbrev pub difference_has_wrong_sign : Width → ℕ → ℕ → Bool
difference_has_wrong_sign width destination source =
    differ (is_negative width destination) (is_negative width source)
    && differ (is_negative width destination) (is_negative width (difference_of width destination source))

-- The status bits of a subtraction; it sets all five.
-- TMS9900 data manual, "Subtract words", "Subtract bytes", "Decrement", "Decrement by two".
abbrev pub difference_flags : Width → ℕ → ℕ → Flags
difference_flags width destination source =
    result_flags width (difference_of width destination source)
    (difference_carries destination source)
    (difference_overflows width destination source)

-- The least signed number of a width, whose negative has no place in it.
abbrev pub is_least : Width → ℕ → Bool
is_least width number = number == half width

-- Negation: the exact negative, kept to the width. TMS9900 data manual, "Negate".
abbrev pub negation_of : Width → ℕ → ℕ
negation_of width number = (modulus width - number) % modulus width

-- The status bits of a negation: by the result; OV for the least number. TMS9900 data manual, "Negate".
-- Profile: C is set for 0 alone.
abbrev pub negation_flags : Width → ℕ → Flags
negation_flags width number = result_flags width (negation_of width number) (number == 0) (is_least width number)

-- The exact absolute value of the signed number. TMS9900 data manual, "Absolute value".
abbrev pub absolute_of : Width → ℕ → ℕ
absolute_of width number = unsigned_abs (signed width number)

-- The status bits of an absolute value: L>, A> and EQ by the operand as it was; OV for the least number.
-- TMS9900 data manual, "Absolute value".
-- Profile: C is cleared.
abbrev pub absolute_flags : Width → ℕ → Flags
absolute_flags width number = result_flags width number false (is_least width number)

-- L>, A> and EQ by a first number against a second: as numbers, as signed numbers, and for equality. The others stay.
-- TMS9900 data manual, "Compare words", "Compare bytes", "Compare immediate".
abbrev pub by_order : Width → ℕ → ℕ → Flags → Flags
by_order width first second flags =
    record flags {
      lgt = nat_lt second first;
      agt = int_lt (signed width second) (signed width first);
      eq = first == second;
    }

-- No status bit is set.
abbrev pub no_flags : Flags
no_flags = record { lgt = false; agt = false; eq = false; c = false; ov = false }
