-- The numbers of source text.
use Rattle.std.specs.Prelude.{ℕ, ◌+◌, ◌-◌, ◌*◌, Bool, ◌&&◌, ◌||◌, nat_lt, nat_le, if◌then◌else◌, List, length}
use Rattle.std.specs.Prelude.{fold, Option, Some, None}
use Rattle.std.specs.List.{list_all}
use Rattle.source_defs.specs.Characters.{is_digit, upper_case}

-- Editor/Assembler manual, "Constants": 0 to 9 and A to F. Profile: a to f too.
abbrev pub is_hexadecimal_digit : ℕ → Bool
is_hexadecimal_digit byte = is_digit byte || (nat_le 0x41 (upper_case byte) && nat_le (upper_case byte) 0x46)

-- the digit of a value below 16, in upper case
abbrev pub hexadecimal_digit : ℕ → ℕ
hexadecimal_digit value = if nat_lt value 10 then 0x30 + value else 0x37 + value

-- what a digit stands for
abbrev pub digit_value : ℕ → ℕ
digit_value byte = if is_digit byte then byte - 0x30 else upper_case byte - 0x37

-- what digits after a number stand for, in a base
abbrev pub value_after : ℕ → ℕ → List ℕ → ℕ
value_after base number digits = fold (λ number digit. number * base + digit_value digit) number digits

abbrev pub all_digits : List ℕ → Bool
all_digits digits = list_all is_digit digits

abbrev pub all_hexadecimal_digits : List ℕ → Bool
all_hexadecimal_digits digits = list_all is_hexadecimal_digit digits

-- The number of decimal digits, where it is not above a limit. Profile: it may have zeros in front.
abbrev pub decimal_up_to : ℕ → List ℕ → Option ℕ
decimal_up_to limit digits =
    let value = value_after 10 0 digits in
    if nat_lt 0 (length digits) && all_digits digits && nat_le value limit then Some value else None

-- Editor/Assembler manual, "Constants": a decimal number is at most 65,535.
abbrev pub decimal_number : List ℕ → Option ℕ
decimal_number digits = decimal_up_to 65535 digits

-- Editor/Assembler manual, "Constants": a hexadecimal number has one to four digits.
abbrev pub hexadecimal_number : List ℕ → Option ℕ
hexadecimal_number digits =
    if nat_lt 0 (length digits) && nat_le (length digits) 4 && all_hexadecimal_digits digits
    then Some (value_after 16 0 digits)
    else None
