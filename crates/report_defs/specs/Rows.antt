-- Bytes in rows of 16, as a dump shows them.
use Rattle.std.specs.Prelude.{ℕ, ◌+◌, ◌-◌, ◌*◌, ◌/◌, Bool, not, ◌&&◌, nat_lt, if◌then◌else◌, List, [], ◌∷◌}
use Rattle.std.specs.Prelude.{◌++◌, length, codes}
use Rattle.std.specs.List.{flat_map, range_with_len}
use Rattle.source_defs.specs.Digits.{byte_digits, hex_word}
use Rattle.base_defs.specs.Lists.{row, rows_equal}

-- Profile: bytes are shown by two digits, each byte after a blank.
abbrev pub spaced_bytes : List ℕ → List ℕ
spaced_bytes bytes = flat_map (λ byte. 0x20 ∷ byte_digits byte) bytes

-- Profile: a row is shown by its address and its bytes.
abbrev pub row_line : ℕ → List ℕ → List ℕ
row_line address bytes = hex_word address ++ (spaced_bytes bytes ++ codes "\n")

-- a row that equals the row before it
abbrev pub is_repeated : List ℕ → ℕ → Bool
is_repeated bytes number = nat_lt 0 number && rows_equal bytes (number - 1) number

-- Profile: of a longest run of rows that each equal the row before, the first shows an asterisk and the others nothing.
abbrev pub row_lines : ℕ → List ℕ → ℕ → List (List ℕ)
row_lines first bytes number =
    if not (is_repeated bytes number) then row_line (first + 16 * number) (row bytes number) ∷ []
    else if is_repeated bytes (number - 1) then []
    else codes "*\n" ∷ []

-- the lines of bytes in rows, of which the first is at an address
unfoldable pub rows_lines : ℕ → List ℕ → List (List ℕ)
rows_lines first bytes = flat_map (row_lines first bytes) (range_with_len 0 (length bytes / 16))
