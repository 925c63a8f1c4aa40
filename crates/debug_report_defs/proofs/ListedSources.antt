-- The lines of a listing have the texts of the lines of its source, which are again a source of its program.
use Rattle.std.proofs.Common.{◌≡◌, ℕ, zero, suc, ◌+◌, ◌-◌, ◌*◌, ◌/◌, ◌<◌, ◌≤◌, Bool, true, false, not, List, [], ◌∷◌, ◌++◌, Ok, Err, length, replicate}
use Rattle.std.proofs.Common.{refl, sym, ap, ap₂, ◌∙◌, append_assoc, append-nil, arith}
use Rattle.std.specs.Prelude.{◌==◌, ◌||◌, take, drop, map, Result, if◌then◌else◌}
use Rattle.std.specs.List.{list_all, flat_map}
use Rattle.std.specs.Fmt.{decimal}
use Rattle.std.specs.FinMap.{empty}
use Rattle.std.proofs.lemmas.Bool.Decides.{nat_tests}
use Rattle.source_defs.specs.declared.text.Line.{Line as TextLine}
use Rattle.source_defs.specs.Lines.{part, lines, numbered, line_texts}
use Rattle.source_defs.specs.Refusals.{Refusal, ◌>>=◌, at_line}
use Rattle.source_defs.specs.Digits.{byte_digits, word_digits, hex_word}
use Rattle.source_defs.proofs.RefusalLaws.{bound}
use Rattle.listed_lines.proofs.Scans.{and_left, not_true}
use Rattle.expression_defs.specs.Symbols.{predefined}
use Rattle.expression_defs.specs.Layout.{line_layout, layout_after, assembled_lines}
use Rattle.expression_defs.proofs.LayoutLaws.{IsNumbered, lines_numbered, texts_of}
use Rattle.report_defs.specs.Rows.{spaced_bytes}
use Rattle.gpl_source_defs.specs.declared.causes.GplCause.{GplCause}
use Rattle.gpl_source_defs.specs.Locations.{Line, location}
use Rattle.gpl_source_defs.specs.FirstChecks.{check, checked, line_of, names}
use Rattle.gpl_source_defs.specs.Programs.{AssembledLine, Program, assembled_line, program_after, program_of_lines, program_of_source, program_by}
use Rattle.gpl_list_defs.specs.Rows.{Row, NameRow, ListsBytes, placed_bytes, text_of, rows, row_of}
use Rattle.gpl_list_defs.specs.Text.{bytes_text, further_line, further_rows, further_lines, line_text, row_lines, name_line, listing_lines}
use Rattle.gpl_list_defs.specs.Listing.{assembled_listing, layout_listing, listing_of}
use Rattle.debug_report_defs.specs.ListingReader.{address_columns, is_name_line, begins_with_address, is_further_line, without_last, text_in, texts_read}
use Rattle.debug_report_defs.specs.ListingLaws.{ListingsAreRead}
use Rattle.debug_report_defs.proofs.Digits.{decimal_passes}
use Rattle.debug_report_defs.proofs.FrontRead.{number_there, decimal_some}
use Rattle.debug_report_defs.proofs.ListingRead.{few, number_no_name, number_then, ending, shown_bytes, line_is, without_last_is, all_image, names_after, gives}

-- ---- the text of a line

after_list : (first second : List ℕ) → drop (length first) (first ++ second) ≡ second
after_list [] second = refl
after_list (byte ∷ first) second = after_list first second

spaced_length : (bytes : List ℕ) → length (spaced_bytes bytes) ≡ 3 * length bytes
unfolding byte_digits
spaced_length [] = refl
spaced_length (byte ∷ bytes) = let same = spaced_length bytes in omega (arith, same)

blanks_length : (n : ℕ) → length {A = ℕ} (replicate n 0x20) ≡ n
blanks_length zero = refl
blanks_length (suc n) = ap suc (blanks_length n)

joined_length : (first second : List ℕ) → length (first ++ second) ≡ length first + length second
joined_length [] second = omega arith
joined_length (byte ∷ first) second = let same = joined_length first second in omega (arith, same)

columns_length : (bytes : List ℕ) → length bytes ≤ 8 → length (bytes_text bytes) ≡ 24
unfolding bytes_text
columns_length bytes le =
    let whole = joined_length (spaced_bytes bytes) (replicate (24 - 3 * length bytes) 0x20) in
    let first = spaced_length bytes in
    let second = blanks_length (24 - 3 * length bytes) in
    omega (arith, whole, first, second, le)

after_columns : (bytes rest : List ℕ) → length bytes ≤ 8 → drop 24 (bytes_text bytes ++ rest) ≡ rest
after_columns bytes rest le =
    ap (λ count. drop count (bytes_text bytes ++ rest)) (sym (columns_length bytes le)) ∙ after_list (bytes_text bytes) rest

after_words : (at : ℕ) (rest : List ℕ) → drop 30 (hex_word at ++ rest) ≡ drop 25 rest
unfolding word_digits
after_words at rest = refl

drop_more : (n : ℕ) (text : List ℕ) → drop (suc n) text ≡ drop 1 (drop n text)
drop_more zero text = refl
drop_more (suc n) [] = refl
drop_more (suc n) (byte ∷ text) = drop_more n text

text_is : (row : Row) → text_in (line_text row) ≡ row.text
text_is row =
    let bytes = shown_bytes row ++ ending row in
    let columns = ap address_columns (line_is row) ∙ number_then row.number (hex_word row.at ++ bytes) in
    ap (λ rest. without_last (drop 30 rest)) columns
    ∙ ap without_last
    (after_words row.at bytes ∙ drop_more 24 bytes ∙ ap (drop 1) (after_columns (take 8 row.bytes) (ending row) (few 8 row.bytes)))
    ∙ without_last_is row.text 0x0A

-- no decimal digit is the sign of an address
no_sign : (word rest : List ℕ) → 0 < length word → list_all (λ byte. not (byte == 0x3E)) word ≡ true → begins_with_address (word ++ rest) ≡ false
no_sign [] rest some e = absurd (omega arith)
no_sign (byte ∷ word) rest some e = not_true (byte == 0x3E) (and_left (not (byte == 0x3E)) _ e)

line_kept : (row : Row) (others : List (List ℕ)) → texts_read (line_text row ∷ others) ≡ row.text ∷ texts_read others
line_kept row others =
    let rest = hex_word row.at ++ (shown_bytes row ++ ending row) in
    let name : is_name_line (line_text row) ≡ false = ap is_name_line (line_is row) ∙ number_no_name row.number (0x20 ∷ rest) in
    let further : is_further_line (line_text row) ≡ false =
    ap is_further_line (line_is row) ∙ ap begins_with_address (number_there 7 row.number rest)
    ∙ no_sign (decimal row.number) (0x20 ∷ rest) (decimal_some row.number) (decimal_passes (λ byte. not (byte == 0x3E)) row.number refl) in
    by (is_name_line (line_text row)) (is_further_line (line_text row)) name further (text_is row)
  where
    by : (name further : Bool) → name ≡ false → further ≡ false → text_in (line_text row) ≡ row.text
        → (if name || further then texts_read others else text_in (line_text row) ∷ texts_read others) ≡ row.text ∷ texts_read others
    by true further e f is = cc e
    by false true e f is = cc f
    by false false e f is = ap (λ text. text ∷ texts_read others) is

further_left : (count at : ℕ) (bytes : List ℕ) (others : List (List ℕ)) → texts_read (further_rows count at bytes ++ others) ≡ texts_read others
unfolding further_line
further_left zero at bytes others = refl
further_left (suc count) at bytes others = further_left count (at + 8) (drop 8 bytes) others

row_kept : (row : Row) (others : List (List ℕ)) → texts_read (row_lines row ++ others) ≡ row.text ∷ texts_read others
unfolding row_lines
row_kept row others =
    line_kept row (further_lines (row.at + 8) (drop 8 row.bytes) ++ others)
    ∙ ap (λ texts. row.text ∷ texts) (further_left ((length (drop 8 row.bytes) + 7) / 8) (row.at + 8) (drop 8 row.bytes) others)

names_left : (names : List NameRow) → texts_read (map name_line names) ≡ []
unfolding name_line
names_left [] = refl
names_left (row ∷ names) = names_left names

texts_kept : (rows : List Row) (names : List NameRow) → texts_read (listing_lines rows names) ≡ map (λ row. row.text) rows
texts_kept [] names = names_left names
texts_kept (row ∷ rows) names =
    ap texts_read (append_assoc (row_lines row) (flat_map row_lines rows) (map name_line names))
    ∙ row_kept row (flat_map row_lines rows ++ map name_line names) ∙ ap (λ texts. row.text ∷ texts) (texts_kept rows names)

-- ---- the texts of the rows are the first lines of the source, up to the one that ends it

numbered_is : (text : List ℕ) (number : ℕ) (found : List TextLine) → IsNumbered number found
    → texts_of text found ≡ numbered number (map (λ line. part text line.span) found)
numbered_is text number [] is = refl
numbered_is text number (line ∷ found) is =
    ap₂ (λ (number : ℕ) (others : List (ℕ × List ℕ)). (number, part text line.span) ∷ others) is.0 (numbered_is text (number + 1) found is.1)

-- the text with a number
text_there : (first : List (List ℕ)) (from number : ℕ) (text : List ℕ) (rest : List (List ℕ)) → number ≡ from + length first
    → text_of (numbered from (first ++ text ∷ rest)) number ≡ text
text_there [] from number text rest is =
    let same : (from == number) ≡ true = grind (arith, nat_tests, is) in
    rw same refl
text_there (other ∷ first) from number text rest is =
    let apart : (from == number) ≡ false = grind (arith, nat_tests, is) in
    rw apart (text_there first (from + 1) number text rest (omega (arith, is)))

at_line_ok : {A : Type 0} (number : ℕ) (answer : Result A GplCause) (found : A) → at_line number answer ≡ Ok found → answer ≡ Ok found
at_line_ok number (Ok value) found e = cc e
at_line_ok number (Err cause) found e = cc e

number_is : (before : List Line) (number : ℕ) (text : List ℕ) (line : Line) → check before number text ≡ Ok line → line.number ≡ number
number_is before number text line e =
    let a = bound (checked (names before) (location before) text) _ line e in
    let same : line_of (location before) number a.0 ≡ line = cc a.2 in
    sym (ap (λ (line : Line). line.number) same)

module _ (listed : ListsBytes) (all : List (List ℕ)) where
  abbrev row_texts : List Line → List (List ℕ)
  row_texts lines = map (λ row. row.text) (rows listed (numbered 1 all) lines)

  map_more : (found : List Row) (row : Row) → map (λ (row : Row). row.text) (found ++ row ∷ []) ≡ map (λ (row : Row). row.text) found ++ row.text ∷ []
  map_more [] row = refl
  map_more (first ∷ found) row = ap (λ texts. first.text ∷ texts) (map_more found row)

  abbrev after_line : List Line → List (ℕ × List ℕ) → Line → Result (List Line) (Refusal GplCause)
  after_line before rest line = if line.last then Ok (line ∷ before) else layout_after check (line ∷ before) rest

  by_last : (before : List Line) (rest : List (ℕ × List ℕ)) (line : Line) (last : Bool) → line.last ≡ last
      → after_line before rest line ≡ (if last then Ok (line ∷ before) else layout_after check (line ∷ before) rest)
  by_last before rest line last is = ap (λ b. if b then Ok (line ∷ before) else layout_after check (line ∷ before) rest) is

  ends_with : (before : List Line) (text : List ℕ) (rest : List (List ℕ)) (number : ℕ) (line : Line) → at_line number (check before number text) ≡ Ok line
      → line.last ≡ true
      → layout_after check before (numbered number (text ∷ rest)) ≡ Ok (line ∷ before)
  ends_with before text rest number line there last =
      ap (λ answer. answer >>= after_line before (numbered (number + 1) rest)) there ∙ by_last before (numbered (number + 1) rest) line true last

  goes_with : (before : List Line) (text : List ℕ) (rest : List (List ℕ)) (number : ℕ) (line : Line) → at_line number (check before number text) ≡ Ok line
      → line.last ≡ false
      → layout_after check before (numbered number (text ∷ rest)) ≡ layout_after check (line ∷ before) (numbered (number + 1) rest)
  goes_with before text rest number line there last =
      ap (λ answer. answer >>= after_line before (numbered (number + 1) rest)) there ∙ by_last before (numbered (number + 1) rest) line false last

  -- some of the lines that are left are all that the source has up to its end
  record Reaches (left : List (List ℕ)) (before found : List Line) (number : ℕ) : Type 0 where
    count : ℕ
    ends : layout_after check before (numbered number (take count left)) ≡ Ok found
    texts : row_texts found ≡ row_texts before ++ take count left

  one_row : (first left : List (List ℕ)) (text : List ℕ) (before : List Line) (line : Line) (number : ℕ) → all ≡ first ++ text ∷ left
      → number ≡ 1 + length first
      → line.number ≡ number → row_texts (line ∷ before) ≡ row_texts before ++ text ∷ []
  one_row first left text before line number is at there =
      let own : text_of (numbered 1 all) line.number ≡ text =
      ap₂ (λ (all : List (List ℕ)) (number : ℕ). text_of (numbered 1 all) number) is there ∙ text_there first 1 number text left at in
      map_more (rows listed (numbered 1 all) before) (row_of listed (numbered 1 all) before line) ∙ ap (λ text. row_texts before ++ text ∷ []) own

  reaches : (left first : List (List ℕ)) (before found : List Line) (number : ℕ) → all ≡ first ++ left → number ≡ 1 + length first
      → layout_after check before (numbered number left) ≡ Ok found → Reaches left before found number
  reaches [] first before found number is at e =
      let same : before ≡ found = cc e in
      record { count = 0; ends = e; texts = ap row_texts (sym same) ∙ sym (append-nil (row_texts before)) }
  reaches (text ∷ left) first before found number is at e =
      let a = bound (at_line number (check before number text)) _ found e in
      let line = a.0 in
      let checked_is = at_line_ok number (check before number text) line a.1 in
      let row = one_row first left text before line number is at (number_is before number text line checked_is) in
      let next : all ≡ (first ++ text ∷ []) ++ left = is ∙ sym (append_assoc first (text ∷ []) left) in
      let longer : length (first ++ text ∷ []) ≡ length first + 1 = one_longer first in
      by line a.1 row line.last refl a.2 (λ goes. reaches left (first ++ text ∷ []) (line ∷ before) found (number + 1) next (omega (arith, at, longer)) goes)
    where
      one_longer : (first : List (List ℕ)) → length (first ++ text ∷ []) ≡ length first + 1
      one_longer [] = refl
      one_longer (other ∷ first) = let same = one_longer first in omega (arith, same)

      by : (line : Line) → at_line number (check before number text) ≡ Ok line → row_texts (line ∷ before) ≡ row_texts before ++ text ∷ [] → (last : Bool)
          → line.last ≡ last
          → (if last then Ok (line ∷ before) else layout_after check (line ∷ before) (numbered (number + 1) left)) ≡ Ok found
          → (layout_after check (line ∷ before) (numbered (number + 1) left) ≡ Ok found → Reaches left (line ∷ before) found (number + 1))
          → Reaches (text ∷ left) before found number
      by line there row true last ends next =
          let same : line ∷ before ≡ found = cc ends in
          record { count = 1; ends = ends_with before text [] number line there last ∙ ends; texts = ap row_texts (sym same) ∙ row }
      by line there row false last goes next =
          let more = next goes in
          record {
            count = suc more.count;
            ends = goes_with before text (take more.count left) number line there last ∙ more.ends;
            texts = more.texts ∙ ap (λ texts. texts ++ take more.count left) row ∙ append_assoc (row_texts before) (text ∷ []) (take more.count left);
          }

-- ---- so they are a source of the program

module _ (source : List ℕ) (program : Program) where
  abbrev all_texts : List (List ℕ)
  all_texts = map (λ line. part source line.span) (lines source)

  texts_are : line_texts source ≡ numbered 1 all_texts
  texts_are = numbered_is source 1 (lines source) (lines_numbered source)

  abbrev own_texts : List (List ℕ)
  own_texts = map (λ row. row.text) (listing_of source).rows

  rows_of : (found : List Line) (answer : Result (List AssembledLine) (Refusal GplCause)) → line_layout check (line_texts source) ≡ Ok found
      → assembled_lines (assembled_line (names found)) found ≡ answer → (answer >>= λ lines. Ok (program_by found lines)) ≡ Ok program
      → (listing_of source).rows ≡ rows (placed_bytes (names found)) (line_texts source) found
  rows_of found (Err refused) line_layout e made = cc made
  rows_of found (Ok lines) line_layout e made =
      ap (λ listing. listing.rows) (ap (layout_listing (line_texts source)) line_layout ∙ ap (assembled_listing (line_texts source) found) e)

  again : (answer : Result (List Line) (Refusal GplCause)) → line_layout check (line_texts source) ≡ answer → (answer >>= program_after) ≡ Ok program
      → program_of_lines own_texts ≡ Ok program
  again (Err refused) line_layout made = cc made
  again (Ok found) line_layout made =
      let listed = placed_bytes (names found) in
      let laid' : layout_after check [] (numbered 1 all_texts) ≡ Ok found = ap (layout_after check []) (sym texts_are) ∙ line_layout in
      let part = reaches listed all_texts all_texts [] [] found 1 refl refl laid' in
      let own : own_texts ≡ take part.count all_texts =
      ap (λ rows. map (λ (row : Row). row.text) rows) (rows_of found (assembled_lines (assembled_line (names found)) found) line_layout refl made
      ∙ ap (λ texts. rows listed texts found) texts_are)
      ∙ part.texts in
      ap program_of_lines own ∙ ap (λ answer. answer >>= program_after) part.ends ∙ made

  source_again : program_of_source source ≡ Ok program
      → program_of_lines (texts_read (listing_lines (listing_of source).rows (listing_of source).names)) ≡ Ok program
  source_again is =
      ap program_of_lines (texts_kept (listing_of source).rows (listing_of source).names) ∙ again (line_layout check (line_texts source)) refl is

pub listings_are_read : ListingsAreRead
listings_are_read =
    record {
      image = all_image;
      names = names_after;
      images = λ source program is all.
          all_image (listing_of source).rows (listing_of source).names empty all ∙ (gives source program is).image;
      programs = λ source program is all.
          names_after (listing_of source).rows (listing_of source).names predefined all ∙ (gives source program is).names;
      texts = texts_kept;
      sources = source_again;
    }
