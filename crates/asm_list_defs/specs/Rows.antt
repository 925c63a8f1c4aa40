-- The text of a listing.
--
-- Profile: a line of a source is shown by its number, right in seven columns; a blank; its place and one column for the
-- part that it belongs to; a blank; what it places, in 24 columns; and the line. What does not fit in 24 columns stands
-- in rows below it, each with its own place and without a number. Where a line is in another file than the line
-- before it, a row says so. The rows of the names come last.
use Rattle.std.specs.Prelude.{ℕ, zero, suc, ◌+◌, if◌then◌else◌, Bool, true, false, List, [], ◌∷◌, ◌++◌}
use Rattle.std.specs.Prelude.{length, take, drop, map, codes, Option, Some, None}
use Rattle.std.specs.List.{flat_map}
use Rattle.source_defs.specs.Digits.{byte_digits, word_digits, hex_word, right_in}
use Rattle.source_defs.specs.Names.{same_text}
use Rattle.expression_defs.specs.Expression.{Value, Absolute, Relocatable, External, to_word}
use Rattle.object_defs.specs.Digits.{padded}
use Rattle.asm_defs.specs.declared.location.Location.{Location}
use Rattle.asm_defs.specs.declared.location.Part.{Part}
use Rattle.asm_defs.specs.declared.location.Part.TheVariants as part
use Rattle.asm_defs.specs.SecondChecks.{Outcome, Nothing, Words, Bytes, Entry}
use Rattle.shelf_defs.specs.Copied.{PlacedLine}
use Rattle.asm_list_defs.specs.Listed.{Shown, ListedName, Listing}

-- Profile: a relocatable place has the mark `'`, one in a dummy section `-`, and an absolute one a blank.
abbrev pub part_mark : Part → ℕ
part_mark part.Absolute = 0x20
part_mark part.Relocatable = 0x27
part_mark part.Dummy = 0x2D

-- a place, with a blank after it
unfoldable pub place_text : Location → List ℕ
place_text at = hex_word (to_word at.number) ++ part_mark at.part ∷ 0x20 ∷ []

-- Profile: a word is in six columns by its four digits. The mark `'` follows where the loader adds the module's
-- address to it, and `*` where the loader puts the value of a name that another module defines: its digits are 0.
unfoldable pub word_text : Value → List ℕ
word_text (Absolute number) = word_digits number ++ codes "  "
word_text (Relocatable number) = word_digits number ++ codes "' "
word_text (External name) = codes "0000* "

-- a byte is in three columns
unfoldable pub byte_text : ℕ → List ℕ
byte_text byte = byte_digits byte ++ 0x20 ∷ []

-- what a line places
unfoldable pub outcome_text : Outcome → List ℕ
outcome_text (Words words) = flat_map word_text words
outcome_text (Bytes bytes) = flat_map byte_text bytes
outcome_text Nothing = []
outcome_text (Entry entry) = []

-- a place and what is placed there, in 24 columns
unfoldable pub placed_text : Location → List ℕ → List ℕ
placed_text at text = place_text at ++ padded 24 text

-- a row below a line
unfoldable pub row_below : Location → List ℕ → List ℕ
row_below at text = codes "        " ++ (placed_text at text ++ codes "\n")

-- the row of a line, with the first of what it places
unfoldable pub first_row : PlacedLine → Location → List ℕ → List ℕ
first_row line at text =
    right_in 7 line.place.line ++ (codes " " ++ (placed_text at text ++ (line.text ++ codes "\n")))

-- the place eight bytes on
abbrev pub eight_on : Location → Location
eight_on at = record { part = at.part; number = to_word (at.number + 8) }

-- the rows of what is left of the text of what a line places, up to a given number
abbrev pub rows_below : ℕ → Location → List ℕ → List (List ℕ)
rows_below zero at text = []
rows_below (suc rows) at [] = []
rows_below (suc rows) at (byte ∷ text) =
    row_below at (take 24 (byte ∷ text)) ∷ rows_below rows (eight_on at) (drop 24 (byte ∷ text))

abbrev pub rows_of : PlacedLine → Location → List ℕ → List (List ℕ)
rows_of line at text =
    first_row line at (take 24 text) ∷ rows_below (length text) (eight_on at) (drop 24 text)

-- the rows of a line
abbrev pub line_rows : PlacedLine × Shown → List (List ℕ)
line_rows line = rows_of line.0 line.1.at (outcome_text line.1.outcome)

-- the same file, or the input itself
abbrev pub same_file : Option (List ℕ) → Option (List ℕ) → Bool
same_file None None = true
same_file (Some one) (Some other) = same_text one other
same_file _ _ = false

-- Profile: the row of a file has its name; the input itself has none.
abbrev pub file_row : Option (List ℕ) → List ℕ
file_row None = codes "file\n"
file_row (Some name) = codes "file " ++ (name ++ codes "\n")

abbrev pub file_rows : Option (List ℕ) → Option (List ℕ) → List (List ℕ)
file_rows before file = if same_file before file then [] else file_row file ∷ []

-- the rows of lines, after one of a file
abbrev pub lines_rows : Option (List ℕ) → List (PlacedLine × Shown) → List (List ℕ)
lines_rows before [] = []
lines_rows before (line ∷ lines) =
    file_rows before line.0.place.file ++ (line_rows line ++ lines_rows line.0.place.file lines)

-- Profile: a name is shown by its value with its kind, the number of the line that defines it, and itself; and by the
-- file, where the line is in one that is copied.
abbrev pub value_text : Option Value → List ℕ
value_text (Some (Absolute number)) = hex_word number ++ codes "  absolute   "
value_text (Some (Relocatable number)) = hex_word number ++ codes "' relocatable"
value_text (Some (External name)) = codes ">0000* external   "
value_text None = codes ">0000  absolute   "

abbrev pub of_file : Option (List ℕ) → List ℕ
of_file None = codes "\n"
of_file (Some name) = 0x20 ∷ (name ++ codes "\n")

abbrev pub name_row : ListedName → List ℕ
name_row found =
    codes "name "
    ++ (value_text found.value
    ++ (0x20 ∷ (right_in 7 found.place.line ++ (0x20 ∷ (found.name ++ of_file found.place.file)))))

-- the rows of a listing
abbrev pub listing_rows : Listing → List (List ℕ)
listing_rows found = lines_rows None found.lines ++ map name_row found.names
