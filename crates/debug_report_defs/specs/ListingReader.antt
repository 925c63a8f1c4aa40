-- How the image and the names of a GPL source are read from the lines that `glist` lists of it.
use Rattle.std.specs.Prelude.{ℕ, zero, suc, ◌-◌, ◌==◌, Bool, false, ◌||◌, if◌then◌else◌, List, [], ◌∷◌}
use Rattle.std.specs.Prelude.{length, take, drop}
use Rattle.std.specs.FinMap.{insert}
use Rattle.source_defs.specs.Numbers.{is_hexadecimal_digit}
use Rattle.expression_defs.specs.Expression.{Absolute}
use Rattle.expression_defs.specs.Symbols.{Names}
use Rattle.gpl_defs.specs.Image.{Image, placed}
use Rattle.debug_report_defs.specs.LineFronts.{hexadecimal_value, word_digits_at, after_blanks, after_word}
use Rattle.debug_report_defs.specs.LineFronts.{after_number}

-- Profile: a byte has three columns, a blank and two digits. The bytes end where there is no digit, or after a number
-- of them.
abbrev pub column_bytes : ℕ → List ℕ → List ℕ
column_bytes zero text = []
column_bytes (suc count) (blank ∷ high ∷ low ∷ text) =
    if is_hexadecimal_digit high then hexadecimal_value (high ∷ low ∷ []) ∷ column_bytes count text else []
column_bytes (suc count) text = []

-- what a line has from the sign > of its address on: after its number, if it has one
abbrev pub from_address : List ℕ → List ℕ
from_address [] = []
from_address (byte ∷ bytes) = if byte == 0x3E then byte ∷ bytes else after_word (byte ∷ bytes)

-- Profile: blanks come first, then the number of the line, or none below a line with more than eight bytes.
abbrev pub address_columns : List ℕ → List ℕ
address_columns line = from_address (after_blanks line)

-- Profile: the line of a name begins with the word name.
abbrev pub is_name_line : List ℕ → Bool
is_name_line [] = false
is_name_line (byte ∷ bytes) = byte == 0x6E

-- an image with the bytes in the columns of a line, from the address there on
abbrev pub line_placed : Image → List ℕ → Image
line_placed image line =
    if is_name_line line then image
    else placed image (word_digits_at 1 (address_columns line)) (column_bytes 8 (drop 5 (address_columns line)))

-- an image with the bytes of lines
abbrev pub image_read : Image → List (List ℕ) → Image
image_read image [] = image
image_read image (line ∷ lines) = image_read (line_placed image line) lines

-- all bytes but the last
abbrev pub without_last : List ℕ → List ℕ
without_last bytes = take (length bytes - 1) bytes

-- Profile: the word name is followed by the value, the number of the line that defines the name, and the name.
abbrev pub name_in : List ℕ → List ℕ
name_in line = without_last (after_number (drop 11 line))

-- names with the one of a line
abbrev pub line_named : Names → List ℕ → Names
line_named names line =
    if is_name_line line then insert names (name_in line) (Absolute (word_digits_at 6 line)) else names

-- names with those of lines
abbrev pub names_read : Names → List (List ℕ) → Names
names_read names [] = names
names_read names (line ∷ lines) = names_read (line_named names line) lines

-- Profile: a line of further bytes has no number before its address.
abbrev pub begins_with_address : List ℕ → Bool
begins_with_address [] = false
begins_with_address (byte ∷ bytes) = byte == 0x3E

abbrev pub is_further_line : List ℕ → Bool
is_further_line line = begins_with_address (after_blanks line)

-- Profile: the text of a line of the source follows its address, the columns of eight bytes, and a blank.
abbrev pub text_in : List ℕ → List ℕ
text_in line = without_last (drop 30 (address_columns line))

-- the texts of the lines of the source
abbrev pub texts_read : List (List ℕ) → List (List ℕ)
texts_read [] = []
texts_read (line ∷ lines) =
    if is_name_line line || is_further_line line then texts_read lines else text_in line ∷ texts_read lines
