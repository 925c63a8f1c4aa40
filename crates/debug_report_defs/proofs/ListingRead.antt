-- The image and the names are read from the lines of a listing.
use Rattle.std.proofs.Common.{◌≡◌, ℕ, zero, suc, ◌+◌, ◌-◌, ◌*◌, ◌/◌, ◌<◌, ◌≤◌, true, false, not}
use Rattle.std.proofs.Common.{List, [], ◌∷◌, ◌++◌, Ok, length, replicate, refl, sym, ap, subst, ◌∙◌, append_assoc, arith}
use Rattle.std.specs.Prelude.{◌==◌, codes, take, drop, map}
use Rattle.std.specs.List.{list_all, AllByRecursion, flat_map}
use Rattle.std.specs.Fmt.{decimal}
use Rattle.std.specs.FinMap.{insert}
use Rattle.source_defs.specs.Numbers.{is_hexadecimal_digit}
use Rattle.source_defs.specs.Digits.{byte_digits, word_digits, hex_word, right_in}
use Rattle.listed_lines.proofs.DigitLaws.{digit_passes}
use Rattle.listed_lines.proofs.Scans.{and_left, not_true}
use Rattle.expression_defs.specs.Expression.{Absolute}
use Rattle.expression_defs.specs.Symbols.{Names}
use Rattle.report_defs.specs.Rows.{spaced_bytes, row_line}
use Rattle.gpl_defs.specs.Image.{Image, placed}
use Rattle.gpl_list_defs.specs.Rows.{Row, NameRow}
use Rattle.gpl_list_defs.specs.Text.{bytes_text, line_front, line_text, further_line, further_rows, further_lines, row_lines, number_of, name_line}
use Rattle.gpl_source_defs.specs.Programs.{Program, program_of_source}
use Rattle.gpl_list_defs.specs.Listing.{listing_of}
use Rattle.gpl_list_defs.specs.Text.{listing_lines}
use Rattle.gpl_list_defs.specs.Laws.{with_rows, with_names, GivesProgram, ListsOf}
use Rattle.gpl_list_defs.proofs.RowLaws.{listings_give_programs}
use Rattle.debug_report_defs.specs.LineFronts.{word_digits_at, after_word}
use Rattle.debug_report_defs.specs.ListingReader.{column_bytes, from_address, address_columns, is_name_line, line_placed, image_read}
use Rattle.debug_report_defs.specs.ListingReader.{without_last, name_in, line_named, names_read}
use Rattle.debug_report_defs.specs.ListingLaws.{FitsColumns, FitsName}
use Rattle.debug_report_defs.proofs.Digits.{byte_back, word_back, decimal_passes}
use Rattle.debug_report_defs.proofs.LineSplit.{in_word}
use Rattle.debug_report_defs.proofs.FrontRead.{number_there, rest_found, decimal_some, word_then}

abbrev AreBytes : List ℕ → Type 0
AreBytes bytes = AllByRecursion (λ byte. byte < 256) bytes

-- ---- bytes in their columns

bytes_read : (count extra : ℕ) (bytes rest : List ℕ) → count ≡ length bytes + extra → AreBytes bytes → column_bytes extra rest ≡ []
    → column_bytes count (spaced_bytes bytes ++ rest) ≡ bytes
unfolding byte_digits
bytes_read count extra [] rest is are e = ap (λ count. column_bytes count rest) (let same : count ≡ extra = omega (arith, is) in same) ∙ e
bytes_read zero extra (byte ∷ bytes) rest is are e = absurd (omega (arith, is))
bytes_read (suc count) extra (byte ∷ bytes) rest is are e =
    rw (digit_passes is_hexadecimal_digit (byte / 16) refl, byte_back byte are.0, bytes_read count extra bytes rest (omega (arith, is)) are.1 e) refl

blanks_end : (extra n : ℕ) (rest : List ℕ) → n ≡ 3 * extra → column_bytes extra (replicate n 0x20 ++ rest) ≡ []
blanks_end zero n rest is = refl
blanks_end (suc extra) (suc (suc (suc n))) rest is = refl
blanks_end (suc extra) zero rest is = absurd (omega (arith, is))
blanks_end (suc extra) (suc zero) rest is = absurd (omega (arith, is))
blanks_end (suc extra) (suc (suc zero)) rest is = absurd (omega (arith, is))

feed_ends : (extra : ℕ) → column_bytes extra (codes "\n") ≡ []
feed_ends zero = refl
feed_ends (suc extra) = refl

eight : (bytes rest : List ℕ) → length bytes ≤ 8 → AreBytes bytes → column_bytes (8 - length bytes) rest ≡ []
    → column_bytes 8 (spaced_bytes bytes ++ rest) ≡ bytes
eight bytes rest le are e = bytes_read 8 (8 - length bytes) bytes rest (omega (arith, le)) are e

text_read : (bytes rest : List ℕ) → length bytes ≤ 8 → AreBytes bytes → column_bytes 8 (bytes_text bytes ++ rest) ≡ bytes
unfolding bytes_text
text_read bytes rest le are =
    ap (column_bytes 8) (append_assoc (spaced_bytes bytes) (replicate (24 - 3 * length bytes) 0x20) rest)
    ∙ eight bytes (replicate (24 - 3 * length bytes) 0x20 ++ rest) le are
    (blanks_end (8 - length bytes) (24 - 3 * length bytes) rest (omega arith))

-- ---- the first bytes of a list, and the others

pub few : (n : ℕ) (bytes : List ℕ) → length (take n bytes) ≤ n
few zero bytes = omega arith
few (suc n) [] = omega arith
few (suc n) (byte ∷ bytes) = let le = few n bytes in omega (arith, le)

are_first : (n : ℕ) (bytes : List ℕ) → AreBytes bytes → AreBytes (take n bytes)
are_first zero bytes are = tt
are_first (suc n) [] are = tt
are_first (suc n) (byte ∷ bytes) are = (are.0, are_first n bytes are.1)

are_others : (n : ℕ) (bytes : List ℕ) → AreBytes bytes → AreBytes (drop n bytes)
are_others zero bytes are = are
are_others (suc n) [] are = tt
are_others (suc n) (byte ∷ bytes) are = are_others n bytes are.1

others_length : (n : ℕ) (bytes : List ℕ) → length (drop n bytes) ≡ length bytes - n
others_length zero bytes = omega arith
others_length (suc n) [] = omega arith
others_length (suc n) (byte ∷ bytes) = let same = others_length n bytes in omega (arith, same)

-- bytes are put in two parts
in_parts : (n : ℕ) (image : Image) (at : ℕ) (bytes : List ℕ) → placed (placed image at (take n bytes)) (at + n) (drop n bytes) ≡ placed image at bytes
in_parts zero image at bytes = ap (λ at. placed image at bytes) (let same : at + 0 ≡ at = omega arith in same)
in_parts (suc n) image at [] = refl
in_parts (suc n) image at (byte ∷ bytes) =
    ap (λ next. placed (placed (insert image at byte) (at + 1) (take n bytes)) next (drop n bytes)) (let same : at + suc n ≡ at + 1 + n = omega arith in same)
    ∙ in_parts n (insert image at byte) (at + 1) bytes

-- ---- a line of bytes, by what it has from its address on

address_at : (at : ℕ) (rest : List ℕ) → at < 65536 → word_digits_at 1 (hex_word at ++ rest) ≡ at
unfolding word_digits
address_at at rest lt = word_back at lt

after_address : (at : ℕ) (rest : List ℕ) → drop 5 (hex_word at ++ rest) ≡ rest
unfolding word_digits
after_address at rest = refl

-- the bytes are put at their address, or there are none
put_there : (image : Image) (read at : ℕ) (found bytes : List ℕ) → found ≡ bytes → (0 < length bytes → read ≡ at)
    → placed image read found ≡ placed image at bytes
put_there image read at found [] is there = rw is refl
put_there image read at found (byte ∷ bytes) is there = rw (is, there (omega arith)) refl

line_read : (image : Image) (line rest : List ℕ) (at : ℕ) (bytes : List ℕ) → is_name_line line ≡ false → address_columns line ≡ hex_word at ++ rest
    → column_bytes 8 rest ≡ bytes → (0 < length bytes → at < 65536) → line_placed image line ≡ placed image at bytes
line_read image line rest at bytes other is found inside =
    rw (other, is) (put_there image (word_digits_at 1 (hex_word at ++ rest)) at (column_bytes 8 (drop 5 (hex_word at ++ rest))) bytes
    (ap (column_bytes 8) (after_address at rest) ∙ found)
    (λ some. address_at at rest (inside some)))

-- ---- the further bytes of a row

further_read : (image : Image) (at : ℕ) (bytes : List ℕ) → length bytes ≤ 8 → AreBytes bytes → (0 < length bytes → at < 65536)
    → line_placed image (further_line at bytes) ≡ placed image at bytes
unfolding further_line
further_read image at bytes le are inside =
    line_read image (codes "        " ++ row_line at bytes) (spaced_bytes bytes ++ codes "\n") at bytes refl refl
    (eight bytes (codes "\n") le are (feed_ends (8 - length bytes))) inside

further_all : (count : ℕ) (image : Image) (at : ℕ) (bytes : List ℕ) → length bytes ≤ 8 * count → 8 * count < length bytes + 8 → AreBytes bytes
    → (0 < length bytes → at + length bytes ≤ 65536) → image_read image (further_rows count at bytes) ≡ placed image at bytes
further_all zero image at [] le gt are within = refl
further_all zero image at (byte ∷ bytes) le gt are within = absurd (omega (arith, le))
further_all (suc count) image at bytes le gt are within =
    let size = others_length 8 bytes in
    let some : 0 < length bytes = omega (arith, gt) in
    let ends = within some in
    let inside : at < 65536 = omega (arith, some, ends) in
    let first = further_read image at (take 8 bytes) (few 8 bytes) (are_first 8 bytes are) (λ some. inside) in
    ap (λ image. image_read image (further_rows count (at + 8) (drop 8 bytes))) first
    ∙ further_all count (placed image at (take 8 bytes)) (at + 8) (drop 8 bytes) (omega (arith, size, le)) (omega (arith, size, gt)) (are_others 8 bytes are)
    (λ more. omega (arith, size, ends, more))
    ∙ in_parts 8 image at bytes

further_lines_read : (image : Image) (at : ℕ) (bytes : List ℕ) → AreBytes bytes → (0 < length bytes → at + length bytes ≤ 65536)
    → image_read image (further_lines at bytes) ≡ placed image at bytes
further_lines_read image at bytes are within =
    further_all ((length bytes + 7) / 8) image at bytes (omega arith) (omega arith) are within

-- ---- the line of a row

-- no decimal digit is the sign of an address
pub from_number : (word rest : List ℕ) → 0 < length word → list_all (λ byte. not (byte == 0x3E)) word ≡ true
    → from_address (word ++ rest) ≡ after_word (word ++ rest)
from_number [] rest some e = absurd (omega arith)
from_number (byte ∷ word) rest some e = rw (not_true (byte == 0x3E) (and_left (not (byte == 0x3E)) _ e)) refl

pub number_then : (number : ℕ) (rest : List ℕ) → address_columns (right_in 7 number ++ 0x20 ∷ rest) ≡ rest
number_then number rest =
    ap from_address (number_there 7 number rest)
    ∙ from_number (decimal number) (0x20 ∷ rest) (decimal_some number) (decimal_passes (λ byte. not (byte == 0x3E)) number refl)
    ∙ (word_then (decimal number) rest (decimal_passes in_word number refl)).1

no_name : (word rest : List ℕ) → 0 < length word → list_all (λ byte. not (byte == 0x6E)) word ≡ true → is_name_line (word ++ rest) ≡ false
no_name [] rest some e = absurd (omega arith)
no_name (byte ∷ word) rest some e = not_true (byte == 0x6E) (and_left (not (byte == 0x6E)) _ e)

pub number_no_name : (number : ℕ) (rest : List ℕ) → is_name_line (right_in 7 number ++ rest) ≡ false
unfolding right_in
number_no_name number rest = by (7 - length (decimal number))
  where
    by : (blanks : ℕ) → is_name_line ((replicate blanks 0x20 ++ decimal number) ++ rest) ≡ false
    by zero = no_name (decimal number) rest (decimal_some number) (decimal_passes (λ byte. not (byte == 0x6E)) number refl)
    by (suc blanks) = refl

-- what a row has after its bytes
abbrev pub ending : Row → List ℕ
ending row = codes " " ++ (row.text ++ codes "\n")

abbrev pub shown_bytes : Row → List ℕ
shown_bytes row = bytes_text (take 8 row.bytes)

pub line_is : (row : Row) → line_text row ≡ right_in 7 row.number ++ 0x20 ∷ (hex_word row.at ++ (shown_bytes row ++ ending row))
unfolding line_text line_front
line_is row =
    append_assoc (right_in 7 row.number) (codes " " ++ (hex_word row.at ++ (shown_bytes row ++ codes " "))) (row.text ++ codes "\n")
    ∙ ap (λ rest. right_in 7 row.number ++ 0x20 ∷ rest)
    (append_assoc (hex_word row.at) (shown_bytes row ++ codes " ") (row.text ++ codes "\n")
    ∙ ap (λ rest. hex_word row.at ++ rest) (append_assoc (shown_bytes row) (codes " ") (row.text ++ codes "\n")))

row_read : (image : Image) (row : Row) → FitsColumns row → image_read image (row_lines row) ≡ placed image row.at row.bytes
unfolding row_lines
row_read image row fits =
    let size = others_length 8 row.bytes in
    let within : 0 < length row.bytes → row.at + length row.bytes ≤ 65536 = fits.addresses in
    let rest = hex_word row.at ++ (shown_bytes row ++ ending row) in
    let line = right_in 7 row.number ++ 0x20 ∷ rest in
    let first : line_placed image line ≡ placed image row.at (take 8 row.bytes) =
    line_read image line (shown_bytes row ++ ending row) row.at (take 8 row.bytes) (number_no_name row.number (0x20 ∷ rest)) (number_then row.number rest)
    (text_read (take 8 row.bytes) (ending row) (few 8 row.bytes) (are_first 8 row.bytes fits.bytes))
    (λ some. let more = first_some 8 row.bytes some in let ends = within more in omega (arith, more, ends)) in
    ap (λ image. image_read image (further_lines (row.at + 8) (drop 8 row.bytes))) (ap (line_placed image) (line_is row) ∙ first)
    ∙ further_lines_read (placed image row.at (take 8 row.bytes)) (row.at + 8) (drop 8 row.bytes) (are_others 8 row.bytes fits.bytes)
    (λ some. let more : 0 < length row.bytes = omega (arith, size, some) in let ends = within more in omega (arith, size, ends, some))
    ∙ in_parts 8 image row.at row.bytes
  where
    first_some : (n : ℕ) (bytes : List ℕ) → 0 < length (take n bytes) → 0 < length bytes
    first_some zero bytes some = absurd (omega (arith, some))
    first_some (suc n) [] some = some
    first_some (suc n) (byte ∷ bytes) some = omega arith

image_append : (image : Image) (first second : List (List ℕ)) → image_read image (first ++ second) ≡ image_read (image_read image first) second
image_append image [] second = refl
image_append image (line ∷ first) second = image_append (line_placed image line) first second

rows_read : (rows : List Row) (image : Image) → AllByRecursion FitsColumns rows → image_read image (flat_map row_lines rows) ≡ with_rows image rows
rows_read [] image all = refl
rows_read (row ∷ rows) image all =
    image_append image (row_lines row) (flat_map row_lines rows)
    ∙ ap (λ image. image_read image (flat_map row_lines rows)) (row_read image row all.0)
    ∙ rows_read rows (placed image row.at row.bytes) all.1

-- the lines of names have no bytes
names_apart : (names : List NameRow) (image : Image) → image_read image (map name_line names) ≡ image
unfolding name_line
names_apart [] image = refl
names_apart (row ∷ names) image = names_apart names image

-- ---- names

pub without_last_is : (bytes : List ℕ) (last : ℕ) → without_last (bytes ++ last ∷ []) ≡ bytes
without_last_is bytes last =
    ap (λ count. take count (bytes ++ last ∷ []))
    (let same = one_longer bytes in let less : length (bytes ++ last ∷ []) - 1 ≡ length bytes = omega (arith, same) in less)
    ∙ whole bytes
  where
    one_longer : (bytes : List ℕ) → length (bytes ++ last ∷ []) ≡ suc (length bytes)
    one_longer [] = refl
    one_longer (byte ∷ bytes) = ap suc (one_longer bytes)

    whole : (bytes : List ℕ) → take (length bytes) (bytes ++ last ∷ []) ≡ bytes
    whole [] = refl
    whole (byte ∷ bytes) = ap (λ l. byte ∷ l) (whole bytes)

name_read : (known : Names) (row : NameRow) → FitsName row → line_named known (name_line row) ≡ insert known row.name row.value
unfolding name_line word_digits
name_read known row fits =
    let name : name_in (name_line row) ≡ row.name = ap without_last (rest_found 7 row.line (row.name ++ codes "\n")) ∙ without_last_is row.name 0x0A in
    let value : Absolute (word_digits_at 6 (name_line row)) ≡ row.value = ap Absolute (word_back (number_of row.value) fits.word) ∙ sym fits.number in
    rw (name, value) refl

-- the lines of a row define no names
further_apart : (count : ℕ) (known : Names) (at : ℕ) (bytes : List ℕ) → names_read known (further_rows count at bytes) ≡ known
unfolding further_line
further_apart zero known at bytes = refl
further_apart (suc count) known at bytes = further_apart count known (at + 8) (drop 8 bytes)

unnamed : (known : Names) (line : List ℕ) → is_name_line line ≡ false → line_named known line ≡ known
unnamed known line other = rw other refl

row_apart : (known : Names) (row : Row) → names_read known (row_lines row) ≡ known
unfolding row_lines
row_apart known row =
    let other : is_name_line (line_text row) ≡ false =
    ap is_name_line (line_is row) ∙ number_no_name row.number (0x20 ∷ (hex_word row.at ++ (shown_bytes row ++ ending row))) in
    ap (λ known. names_read known (further_lines (row.at + 8) (drop 8 row.bytes))) (unnamed known (line_text row) other)
    ∙ further_apart ((length (drop 8 row.bytes) + 7) / 8) known (row.at + 8) (drop 8 row.bytes)

names_append : (known : Names) (first second : List (List ℕ)) → names_read known (first ++ second) ≡ names_read (names_read known first) second
names_append known [] second = refl
names_append known (line ∷ first) second = names_append (line_named known line) first second

rows_apart : (rows : List Row) (known : Names) → names_read known (flat_map row_lines rows) ≡ known
rows_apart [] known = refl
rows_apart (row ∷ rows) known =
    names_append known (row_lines row) (flat_map row_lines rows)
    ∙ ap (λ known. names_read known (flat_map row_lines rows)) (row_apart known row) ∙ rows_apart rows known

all_names : (names : List NameRow) (known : Names) → AllByRecursion FitsName names → names_read known (map name_line names) ≡ with_names known names
all_names [] known all = refl
all_names (row ∷ names) known all =
    ap (λ known. names_read known (map name_line names)) (name_read known row all.0) ∙ all_names names (insert known row.name row.value) all.1

pub all_image : (rows : List Row) (names : List NameRow) (image : Image) → AllByRecursion FitsColumns rows
    → image_read image (listing_lines rows names) ≡ with_rows image rows
all_image rows names image all =
    image_append image (flat_map row_lines rows) (map name_line names)
    ∙ names_apart names (image_read image (flat_map row_lines rows)) ∙ rows_read rows image all

pub names_after : (rows : List Row) (names : List NameRow) (known : Names) → AllByRecursion FitsName names
    → names_read known (listing_lines rows names) ≡ with_names known names
names_after rows names known all =
    names_append known (flat_map row_lines rows) (map name_line names)
    ∙ ap (λ known. names_read known (map name_line names)) (rows_apart rows known) ∙ all_names names known all

pub gives : (source : List ℕ) (program : Program) → program_of_source source ≡ Ok program → GivesProgram (listing_of source) program
gives source program is = subst (ListsOf (listing_of source)) is (listings_give_programs source)
