-- Lines that are known by themselves, beside their rows.
use Rattle.std.proofs.Common.{◌≡◌, ℕ, zero, suc, arith, ◌+◌, ◌*◌, Bool, true, false, ◌&&◌, ◌||◌, List, [], ◌∷◌, ◌++◌}
use Rattle.std.proofs.Common.{append_assoc, length, Ok, Err, refl, sym, ap, subst, ◌∙◌}
use Rattle.std.specs.Prelude.{Option, Result, map, take, drop}
use Rattle.std.specs.List.{flat_map}
use Rattle.source_defs.specs.Refusals.{map_ok}
use Rattle.expression_defs.specs.Expression.{Value}
use Rattle.asm_defs.specs.declared.causes.AsmCause.{AsmCause}
use Rattle.asm_defs.specs.declared.location.Location.{Location}
use Rattle.asm_defs.specs.FirstChecks.{location_after}
use Rattle.asm_defs.proofs.CheckLaws.{bound}
use Rattle.line_laws.specs.KnownLines.{KnownLine, known_line, known_lines, line_words, names_in, all_names, all_words}
use Rattle.line_laws.specs.KnownLines.{end_of, is_plain, are_plain, are_close, is_at}
use Rattle.source_defs.specs.OperandLists.{is_empty}
use Rattle.native_interp.specs.Source.{lines}
use Rattle.line_table.specs.declared.line_row.LineRow.{LineRow}
use Rattle.line_table.specs.Table.{row_words}
use Rattle.line_table.proofs.AllRows.{rows, location_of}
use Rattle.line_laws.proofs.Small.{append_map}

-- what a row says of its line
pub record Shown : Type 0 where
  pub at : Location
  pub words : List ℕ

abbrev pub shown : KnownLine → Shown
shown line = record { at = line.at; words = line_words line }

abbrev pub row_shown : LineRow → Shown
row_shown row = record { at = location_of row; words = row_words row }

-- what the rows state of some lines, the names that they define, and the location after them
pub record Summary : Type 0 where
  pub rows : List Shown
  pub names : List (List ℕ × Value)
  pub plain : Bool
  pub next : Location

abbrev pub summary : Location → List KnownLine → Summary
summary at lines = record { rows = map shown lines; names = all_names lines; plain = are_plain lines; next = end_of at lines }

abbrev pub expected : List LineRow → List (List ℕ × Value) → Location → Summary
expected rows names next = record { rows = map row_shown rows; names = names; plain = true; next = next }

-- Lines from a location on are known, as their rows say.
pub record Reads (look : List ℕ → Option Value) (from : Location) (texts : List (List ℕ)) (rows : List LineRow) (names : List (List ℕ × Value)) (next : Location) : Type 0 where
  pub lines : List KnownLine
  pub known : known_lines look from texts ≡ Ok lines
  pub as_rows : map shown lines ≡ map row_shown rows
  pub as_names : all_names lines ≡ names
  pub plain : are_plain lines ≡ true
  pub leads : end_of from lines ≡ next

module _ (look : List ℕ → Option Value) where
  reads_by : (from next : Location) (texts : List (List ℕ)) (rows : List LineRow) (names : List (List ℕ × Value)) (answer : Result (List KnownLine) AsmCause)
      → known_lines look from texts ≡ answer → map_ok (summary from) answer ≡ Ok (expected rows names next) → Reads look from texts rows names next
  reads_by from next texts rows names (Ok lines) is e =
      let same : summary from lines ≡ expected rows names next = cc e in
      record {
        lines = lines;
        known = is;
        as_rows = ap (λ (s : Summary). s.rows) same;
        as_names = ap (λ (s : Summary). s.names) same;
        plain = ap (λ (s : Summary). s.plain) same;
        leads = ap (λ (s : Summary). s.next) same;
      }
  reads_by from next texts rows names (Err cause) is e = cc e

  pub reads_of : (from next : Location) (texts : List (List ℕ)) (rows : List LineRow) (names : List (List ℕ × Value))
      → map_ok (summary from) (known_lines look from texts) ≡ Ok (expected rows names next) → Reads look from texts rows names next
  reads_of from next texts rows names e = reads_by from next texts rows names (known_lines look from texts) refl e

  known_step : (text : List ℕ) (texts : List (List ℕ)) (from : Location) (line : KnownLine) (others : List KnownLine) → known_line look from text ≡ Ok line
      → known_lines look (location_after from line.found.move) texts ≡ Ok others → known_lines look from (text ∷ texts) ≡ Ok (line ∷ others)
  known_step text texts from line others is are = rw is (rw are refl)

  pub known_append : (texts more : List (List ℕ)) (from : Location) (lines others : List KnownLine) → known_lines look from texts ≡ Ok lines
      → known_lines look (end_of from lines) more ≡ Ok others → known_lines look from (texts ++ more) ≡ Ok (lines ++ others)
  known_append [] more from lines others e f =
      let none : ◌≡◌ {A = List KnownLine} [] lines = cc e in
      subst (λ lines. known_lines look from more ≡ Ok (lines ++ others)) none (subst (λ lines. known_lines look (end_of from lines) more ≡ Ok others) (sym none) f)
  known_append (text ∷ texts) more from lines others e f =
      let a = bound (known_line look from text) _ lines e in
      let b = bound (known_lines look (location_after from a.0.found.move) texts) _ lines a.2 in
      let same : a.0 ∷ b.0 ≡ lines = cc (b.2) in
      let rest = known_append texts more (location_after from a.0.found.move) b.0 others b.1 (subst (λ lines. known_lines look (end_of from lines) more ≡ Ok others) (sym same) f) in
      subst (λ lines. known_lines look from (text ∷ (texts ++ more)) ≡ Ok (lines ++ others)) same (known_step text (texts ++ more) from a.0 (b.0 ++ others) a.1 rest)

append_names : (lines more : List KnownLine) → all_names (lines ++ more) ≡ all_names lines ++ all_names more
append_names [] more = refl
append_names (line ∷ lines) more = ap (λ rest. names_in line ++ rest) (append_names lines more) ∙ sym (append_assoc (names_in line) (all_names lines) (all_names more))

append_plain : (lines more : List KnownLine) → are_plain lines ≡ true → are_plain more ≡ true → are_plain (lines ++ more) ≡ true
append_plain [] more e f = f
append_plain (line ∷ lines) more e f = by (is_plain line) e (append_plain lines more)
  where
    by : (b : Bool) → (b && are_plain lines) ≡ true → (are_plain lines ≡ true → are_plain more ≡ true → are_plain (lines ++ more) ≡ true) → (b && are_plain (lines ++ more)) ≡ true
    by true e rest = rest e f
    by false e rest = cc e

append_end : (lines more : List KnownLine) (from : Location) → end_of from (lines ++ more) ≡ end_of (end_of from lines) more
append_end [] more from = refl
append_end (line ∷ lines) more from = append_end lines more (location_after from line.found.move)

-- lines, and then others
module _ (look : List ℕ → Option Value) (a b c : Location) (texts more : List (List ℕ)) (rows others : List LineRow) (names after : List (List ℕ × Value)) where
  pub join : Reads look a texts rows names b → Reads look b more others after c → Reads look a (texts ++ more) (rows ++ others) (names ++ after) c
  join first then = record {
    lines = first.lines ++ then.lines;
    known = known_append look texts more a first.lines then.lines first.known
        (subst (λ at. known_lines look at more ≡ Ok then.lines) (sym first.leads) then.known);
    as_rows = append_map shown first.lines then.lines
        ∙ (ap (λ front. front ++ map shown then.lines) first.as_rows
        ∙ (ap (λ rest. map row_shown rows ++ rest) then.as_rows ∙ sym (append_map row_shown rows others)));
    as_names = append_names first.lines then.lines
        ∙ (ap (λ front. front ++ all_names then.lines) first.as_names ∙ ap (λ rest. names ++ rest) then.as_names);
    plain = append_plain first.lines then.lines first.plain then.plain;
    leads = append_end first.lines then.lines a ∙ (ap (λ at. end_of at then.lines) first.leads ∙ then.leads);
  }

module _ {A : Type 0} where
  take_none : (n : ℕ) → take {A = A} n [] ≡ []
  take_none zero = refl
  take_none (suc n) = refl

  pub take_on : (items : List A) (m n : ℕ) → take (m + n) items ≡ take m items ++ take n (drop m items)
  take_on items zero n = let sum : 0 + n ≡ n = omega arith in ap (λ n. take n items) sum
  take_on [] (suc m) n = take_none (suc m + n) ∙ sym (take_none n)
  take_on (item ∷ items) (suc m) n =
      let sum : suc m + n ≡ suc (m + n) = omega arith in
      ap (λ n. take n (item ∷ items)) sum ∙ ap (λ items. item ∷ items) (take_on items m n)

-- the words of rows come one after the other from an absolute place on
abbrev pub close_rows : ℕ → List Shown → Bool
close_rows number [] = true
close_rows number (row ∷ rows) = (is_empty row.words || is_at number row.at) && close_rows (number + 2 * length row.words) rows

pub close_shown : (number : ℕ) (lines : List KnownLine) → are_close number lines ≡ close_rows number (map shown lines)
close_shown number [] = refl
close_shown number (line ∷ lines) =
    ap (λ rest. (is_empty (line_words line) || is_at number line.at) && rest) (close_shown (number + 2 * length (line_words line)) lines)

abbrev pub words_shown : List Shown → List ℕ
words_shown rows = flat_map (λ (row : Shown). row.words) rows

pub shown_words : (lines : List KnownLine) → all_words lines ≡ words_shown (map shown lines)
shown_words [] = refl
shown_words (line ∷ lines) = ap (λ rest. line_words line ++ rest) (shown_words lines)
