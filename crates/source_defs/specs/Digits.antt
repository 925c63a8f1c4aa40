-- Bytes and words as hexadecimal digits, in upper case, and numbers as decimal ones.
use Rattle.std.specs.Prelude.{ℕ, ◌-◌, ◌/◌, ◌%◌, List, [], ◌∷◌, ◌++◌, length, replicate}
use Rattle.std.specs.Fmt.{decimal}
use Rattle.source_defs.specs.Numbers.{hexadecimal_digit}

-- a byte by two digits
unfoldable pub byte_digits : ℕ → List ℕ
byte_digits byte = hexadecimal_digit (byte / 16 % 16) ∷ hexadecimal_digit (byte % 16) ∷ []

-- a word by four digits
unfoldable pub word_digits : ℕ → List ℕ
word_digits word =
    hexadecimal_digit (word / 4096 % 16) ∷ hexadecimal_digit (word / 256 % 16)
    ∷ hexadecimal_digit (word / 16 % 16) ∷ hexadecimal_digit (word % 16) ∷ []

-- Editor/Assembler manual, "Constants": a hexadecimal number comes after the sign >.
abbrev pub hex_word : ℕ → List ℕ
hex_word word = 0x3E ∷ word_digits word

abbrev pub hex_byte : ℕ → List ℕ
hex_byte byte = 0x3E ∷ byte_digits byte

-- a number in columns, to their right; one with more digits takes as many columns as it has digits
unfoldable pub right_in : ℕ → ℕ → List ℕ
right_in columns number = replicate (columns - length (decimal number)) 0x20 ++ decimal number
