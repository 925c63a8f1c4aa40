-- The text of a listing.
use Rattle.std.specs.Prelude.{ℕ, zero, suc, ◌+◌, ◌-◌, ◌*◌, ◌/◌, List, [], ◌∷◌, ◌++◌, length, take, drop, replicate, map}
use Rattle.std.specs.Prelude.{codes}
use Rattle.std.specs.List.{flat_map}
use Rattle.source_defs.specs.Digits.{hex_word, right_in}
use Rattle.expression_defs.specs.Expression.{Value, Absolute, Relocatable, External}
use Rattle.report_defs.specs.Rows.{spaced_bytes, row_line}
use Rattle.gpl_list_defs.specs.Rows.{Row, NameRow}

-- Profile: bytes are shown by two digits, each after a blank, and blanks fill the place of fewer than eight.
unfoldable pub bytes_text : List ℕ → List ℕ
bytes_text bytes = spaced_bytes bytes ++ replicate (24 - 3 * length bytes) 0x20

-- Profile: a line is shown by its number right in seven columns, its address, its first eight bytes and its text.
unfoldable pub line_front : Row → List ℕ
line_front row =
    right_in 7 row.number ++ (codes " " ++ (hex_word row.at ++ (bytes_text (take 8 row.bytes) ++ codes " ")))

unfoldable pub line_text : Row → List ℕ
line_text row = line_front row ++ (row.text ++ codes "\n")

-- Profile: below it stand its further bytes, eight in a row, by their addresses.
unfoldable pub further_line : ℕ → List ℕ → List ℕ
further_line at bytes = codes "        " ++ row_line at bytes

-- a number of rows of bytes, of which the first is at an address
abbrev pub further_rows : ℕ → ℕ → List ℕ → List (List ℕ)
further_rows zero at bytes = []
further_rows (suc count) at bytes = further_line at (take 8 bytes) ∷ further_rows count (at + 8) (drop 8 bytes)

-- the rows of all of them
abbrev pub further_lines : ℕ → List ℕ → List (List ℕ)
further_lines at bytes = further_rows ((length bytes + 7) / 8) at bytes

-- the lines of a row, each by one write
unfoldable pub row_lines : Row → List (List ℕ)
row_lines row = line_text row ∷ further_lines (row.at + 8) (drop 8 row.bytes)

-- Profile: every name of a GPL source stands for a number.
abbrev pub number_of : Value → ℕ
number_of (Absolute number) = number
number_of (Relocatable place) = place
number_of (External name) = 0

-- Profile: a name is shown by what it stands for and the number of its line.
unfoldable pub name_line : NameRow → List ℕ
name_line row =
    codes "name " ++ (hex_word (number_of row.value)
    ++ (codes " " ++ (right_in 7 row.line ++ (codes " " ++ (row.name ++ codes "\n")))))

-- the lines of a listing
abbrev pub listing_lines : List Row → List NameRow → List (List ℕ)
listing_lines rows names = flat_map row_lines rows ++ map name_line names
