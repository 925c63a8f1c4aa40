-- Multiplication and division of numbers without sign.
use Rattle.std.specs.Prelude.{ℕ, ◌+◌, ◌*◌, ◌/◌, ◌%◌, Bool, ◌&&◌, nat_lt, if◌then◌else◌, Option, Some, None, is_none}
use Rattle.tms_defs.specs.declared.flags.Flags.{Flags}

-- The number of two words, the first of them the more significant.
abbrev pub double_word : ℕ → ℕ → ℕ
double_word more less = 65536 * more + less

-- The high and the low word of the exact product. TMS9900 data manual, "Multiply".
abbrev pub product_of : ℕ → ℕ → ℕ × ℕ
product_of a b = (a * b / 65536, a * b % 65536)

-- The quotient and the remainder of a number of two words; there are none where the divisor is not above the high
-- word, for the quotient would not be a word. TMS9900 data manual, "Divide".
abbrev pub division_of : ℕ → ℕ → ℕ → Option (ℕ × ℕ)
division_of more less divisor =
    if nat_lt more divisor
    then Some (double_word more less / divisor, double_word more less % divisor)
    else None

-- The manual's rule, which says the same as `division_of`: there is a quotient, and it is a word.
-- TMS9900 data manual, "Divide".
abbrev pub has_quotient : ℕ → ℕ → ℕ → Bool
has_quotient more less divisor = nat_lt 0 divisor && nat_lt (double_word more less / divisor) 65536

-- The status bits after a division: OV alone, where there is no quotient. TMS9900 data manual, "Divide".
abbrev pub by_division : ℕ → ℕ → ℕ → Flags → Flags
by_division more less divisor flags = record flags { ov = is_none (division_of more less divisor) }
