-- Line numbers and names as characters, and the checksum.
use Rattle.std.specs.Prelude.{ℕ, ◌+◌, ◌-◌, ◌/◌, ◌%◌, List, [], ◌∷◌, ◌++◌, length, replicate, sum}

-- four decimal digits
unfoldable pub four_digits : ℕ → List ℕ
four_digits number =
    (0x30 + number / 1000 % 10) ∷ (0x30 + number / 100 % 10) ∷ (0x30 + number / 10 % 10) ∷ (0x30 + number % 10) ∷ []

-- characters with blanks after them up to a width
abbrev pub padded : ℕ → List ℕ → List ℕ
padded width bytes = bytes ++ replicate (width - length bytes) 0x20

-- the two's complement, in 16 bits
abbrev pub complement : ℕ → ℕ
complement number = (65536 - number % 65536) % 65536

-- Editor/Assembler manual, "Tagged object code": the two's complement, in 16 bits, of the sum of the characters.
unfoldable pub checksum : List ℕ → ℕ
checksum bytes = complement (sum bytes)
