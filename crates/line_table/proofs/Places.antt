-- Each row is that of its line.
use Rattle.std.proofs.Common.{◌≡◌, ℕ, zero, suc, ◌-◌, ◌/◌, ◌<◌, Bool, true, false, ◌&&◌, List, [], ◌∷◌, ◌++◌, length}
use Rattle.std.proofs.Common.{Some, None, refl, sym, ap, subst, ◌∙◌, arith}
use Rattle.std.proofs.lemmas.List.{length-map}
use Rattle.std.specs.Prelude.{Option, is_some, nat_eq, map, take, drop, slice_index_or}
use Rattle.std.specs.Option.{unwrap_or}
use Rattle.std.specs.List.{list_all}
use Rattle.std.specs.Cmp.Lexicographic.{pointwise}
use Rattle.std.proofs.lemmas.Bool.Decides.{nat_tests}
use Rattle.object_defs.specs.declared.spot.Spot.TheVariants as spot
use Rattle.asm_defs.specs.SecondChecks.{Outcome, Nothing, Words, Bytes, Entry}
use Rattle.line_laws.specs.KnownLines as known
use Rattle.line_laws.specs.KnownLines.{KnownLine, line_words, is_plain, are_plain, is_plain_statement}
use Rattle.line_laws.specs.Laws.{IsAssembledAt}
use Rattle.line_laws.proofs.PlacedWords.{are_numbers}
use Rattle.line_laws.proofs.Locations.{known_lines_are_assembled}
use Rattle.native_interp.specs.Source.{lines}
use Rattle.native_interp.specs.Words.{words}
use Rattle.native_interp.specs.declared.addresses.TheConstants.{GBOOT}
use Rattle.native_interp.specs.Words.{origin}
use Rattle.line_table.specs.declared.line_row.LineRow.{LineRow}
use Rattle.line_table.specs.declared.rows.tables.TheConstants.{TABLE_ROWS}
use Rattle.line_table.specs.declared.rows.routines.TheConstants.{ROUTINE_ROWS}
use Rattle.line_table.specs.declared.rows.operations.TheConstants.{OPERATION_ROWS}
use Rattle.line_table.specs.declared.rows.flow.TheConstants.{FLOW_ROWS}
use Rattle.line_table.specs.declared.rows.copy.TheConstants.{COPY_ROWS}
use Rattle.line_table.specs.Table.{Row, defined, nothing, row_words}
use Rattle.line_table.proofs.AllRows.{table, as_row, rows, no_row, location_of}
use Rattle.line_table.specs.Rows.{Places, IsRow}
use Rattle.line_table.proofs.RowLines.{Shown, shown, row_shown}
use Rattle.line_table.proofs.Counts.{line_count, most}
use Rattle.line_table.proofs.Known.{last, ending, front_texts, front_lines, are_known, lines_are}
use Rattle.line_table.proofs.Chain.{to_last}
use Rattle.line_laws.proofs.Small.{append_map}

some_words : (come : Outcome) (found : List ℕ) → known.outcome_words come ≡ Some found → Places come found
some_words Nothing found e = let same : ◌≡◌ {A = List ℕ} [] found = cc e in sym same
some_words (Words values) found e = are_numbers values found e
some_words (Bytes bytes) found e = cc e
some_words (Entry entry) found e = cc e

plain_places : (line : KnownLine) → is_plain line ≡ true → Places line.outcome (line_words line)
plain_places line e = by (is_plain_statement line.found.statement) (known.outcome_words line.outcome) refl e
  where
    by : (b : Bool) (found : Option (List ℕ)) → known.outcome_words line.outcome ≡ found → (b && is_some found) ≡ true → Places line.outcome (unwrap_or found [])
    by true (Some found) is e = some_words line.outcome found is
    by true None is e = cc e
    by false found is e = cc e

-- a fact of each line, at a number
module _ (d : KnownLine) where
  at_index : (some : List KnownLine) (final : KnownLine) (index : ℕ) → are_plain some ≡ true → Places final.outcome (line_words final) → index < length (some ++ final ∷ [])
      → let line = slice_index_or (some ++ final ∷ []) index d in Places line.outcome (line_words line)
  at_index [] final zero plain places lt = places
  at_index [] final (suc index) plain places lt = absurd (omega (arith, lt))
  at_index (line ∷ some) final zero plain places lt = plain_places line (front (is_plain line) (are_plain some) plain)
    where
      front : (a b : Bool) → (a && b) ≡ true → a ≡ true
      front true b e = refl
      front false b e = cc e
  at_index (line ∷ some) final (suc index) plain places lt = at_index some final index (rest (is_plain line) (are_plain some) plain) places (omega (arith, lt))
    where
      rest : (a b : Bool) → (a && b) ≡ true → b ≡ true
      rest true b e = e
      rest false b e = cc e

pub index_map : {A B : Type 0} (f : A → B) (items : List A) (index : ℕ) (d : A) (e : B) → index < length items → slice_index_or (map f items) index e ≡ f (slice_index_or items index d)
index_map f [] index d e lt = absurd (omega (arith, lt))
index_map f (item ∷ items) zero d e lt = refl
index_map f (item ∷ items) (suc index) d e lt = index_map f items index d e (omega (arith, lt))

-- the row of a line that is shown alike
module _ (some : List KnownLine) (table : List LineRow) (same : map shown some ≡ map row_shown table) (index : ℕ) (d : KnownLine) (r : LineRow) (inside : index < length some) (there : index < length table) where
  shown_alike : shown (slice_index_or some index d) ≡ row_shown (slice_index_or table index r)
  shown_alike =
      sym (index_map shown some index d (shown d) inside) ∙ (ap (λ items. slice_index_or items index (shown d)) same ∙ index_map row_shown table index r (shown d) there)

place_number : (row : LineRow) → row.place ≡ (location_of row).number
place_number row = by (nat_eq row.place 0) refl
  where
    by : (b : Bool) → nat_eq row.place 0 ≡ b → row.place ≡ (location_of row).number
    by true e = let none : row.place ≡ 0 = grind (arith, nat_tests, e) in rw e none
    by false e = rw e refl

-- what the tests find of each row
abbrev has_words : LineRow → Bool
has_words row = nat_eq (length (row_words row)) row.count

abbrev is_shipped : List ℕ → LineRow → Bool
is_shipped held row = pointwise nat_eq (row_words row) (take row.count (drop ((row.place - origin) / 2) held))

rows_have_words : list_all has_words rows ≡ true
rows_have_words = refl

rows_are_shipped : list_all (is_shipped words) rows ≡ true
rows_are_shipped = refl

pub tested : {A : Type 0} (test : A → Bool) (items : List A) (index : ℕ) (d : A) → list_all test items ≡ true → index < length items → test (slice_index_or items index d) ≡ true
tested test [] index d e lt = absurd (omega (arith, lt))
tested test (item ∷ items) zero d e lt = front (test item) (list_all test items) e
  where
    front : (a b : Bool) → (a && b) ≡ true → a ≡ true
    front true b e = refl
    front false b e = cc e
tested test (item ∷ items) (suc index) d e lt = tested test items index d (rest (test item) (list_all test items) e) (omega (arith, lt))
  where
    rest : (a b : Bool) → (a && b) ≡ true → b ≡ true
    rest true b e = e
    rest false b e = cc e

alike : (a b : List ℕ) → pointwise nat_eq a b ≡ true → a ≡ b
alike [] [] e = refl
alike [] (y ∷ ys) e = cc e
alike (x ∷ xs) [] e = cc e
alike (x ∷ xs) (y ∷ ys) e = by (nat_eq x y) refl e (alike xs ys)
  where
    by : (b : Bool) → nat_eq x y ≡ b → (b && pointwise nat_eq xs ys) ≡ true → (pointwise nat_eq xs ys ≡ true → xs ≡ ys) → x ∷ xs ≡ y ∷ ys
    by true is e rest =
        let same : x ≡ y = grind (arith, nat_tests, is) in
        λ i. same i ∷ rest e i
    by false is e rest = cc e

-- all lines are shown as all rows
abbrev all_lines : List KnownLine
all_lines = front_lines ++ ending ∷ []

split_rows : take most rows ++ drop most rows ≡ rows
split_rows = refl

ending_shown : map shown (ending ∷ []) ≡ map row_shown (drop most rows)
ending_shown = refl

all_shown : map shown all_lines ≡ map row_shown rows
all_shown =
    append_map shown front_lines (ending ∷ [])
    ∙ (ap (λ front. front ++ map shown (ending ∷ [])) to_last.as_rows
    ∙ (ap (λ rest. map row_shown (take most rows) ++ rest) ending_shown
    ∙ (sym (append_map row_shown (take most rows) (drop most rows)) ∙ ap (map row_shown) split_rows)))

rows_counted : length rows ≡ line_count
rows_counted = refl

lines_counted : length lines ≡ line_count
lines_counted = refl

all_counted : length all_lines ≡ line_count
all_counted = sym (length-map all_lines shown) ∙ (ap length all_shown ∙ (length-map rows row_shown ∙ rows_counted))

-- a row of a table, whose line is among lines
module _ (some : List KnownLine) (table : List LineRow) (held : List ℕ) (texts : List (List ℕ)) (index : ℕ) (same : map shown some ≡ map row_shown table) (inside : index < length some) (there : index < length table) where
  abbrev line_there : KnownLine
  line_there = slice_index_or some index ending

  abbrev row_there : LineRow
  row_there = slice_index_or table index no_row

  alike_there : shown line_there ≡ row_shown row_there
  alike_there = shown_alike some table same index ending no_row inside there

  pub row_is_assembled : IsAssembledAt texts index line_there.at line_there.outcome → Places line_there.outcome (line_words line_there)
      → list_all has_words table ≡ true → list_all (is_shipped held) table ≡ true
      → texts ≡ lines → held ≡ words → IsRow index row_there
  row_is_assembled place_is places counted shipped are hold = record {
    at = line_there.at;
    come = line_there.outcome;
    place_is = subst (λ texts. IsAssembledAt texts index line_there.at line_there.outcome) are place_is;
    place = place_number row_there ∙ ap (λ (s : Shown). s.at.number) (sym alike_there);
    count = grind (arith, nat_tests, tested has_words table index no_row counted there);
    placed = subst (Places line_there.outcome) (ap (λ (s : Shown). s.words) alike_there) places;
    shipped = subst (λ held. row_words row_there ≡ take row_there.count (drop ((row_there.place - origin) / 2) held)) hold
        (alike (row_words row_there) (take row_there.count (drop ((row_there.place - origin) / 2) held))
        (tested (is_shipped held) table index no_row shipped there));
  }

pub rows_are_assembled : (index : ℕ) → index < length lines → IsRow index (slice_index_or rows index no_row)
rows_are_assembled index lt =
    let inside : index < length all_lines = omega (arith, lt, lines_counted, all_counted) in
    let there : index < length rows = omega (arith, lt, lines_counted, rows_counted) in
    row_is_assembled all_lines rows words (front_texts ++ last ∷ []) index all_shown inside there
    (known_lines_are_assembled 0x1000 front_texts last defined front_lines ending (spot.Absolute GBOOT) index ending are_known inside)
    (at_index ending front_lines ending index to_last.plain refl inside) rows_have_words rows_are_shipped lines_are refl

-- the row that is found among the five parts of the table
pub row_found : (index : ℕ) (row : LineRow) (found : Row) (a b c d e : List Row)
    → a ≡ TABLE_ROWS → b ≡ ROUTINE_ROWS → c ≡ OPERATION_ROWS → d ≡ FLOW_ROWS → e ≡ COPY_ROWS
    → found ≡ slice_index_or (a ++ (b ++ (c ++ (d ++ e)))) index nothing → row ≡ as_row found → index < length lines → IsRow index row
row_found index row found a b c d e one two three four five is made lt =
    let same : a ++ (b ++ (c ++ (d ++ e))) ≡ table = λ i. one i ++ (two i ++ (three i ++ (four i ++ five i))) in
    let counted : length table ≡ line_count = sym (length-map table as_row) ∙ rows_counted in
    let there : slice_index_or rows index no_row ≡ as_row (slice_index_or table index nothing) =
    index_map as_row table index nothing no_row (omega (arith, lt, lines_counted, counted)) in
    let here : row ≡ slice_index_or rows index no_row = made ∙ (ap as_row (is ∙ ap (λ table. slice_index_or table index nothing) same) ∙ sym there) in
    subst (IsRow index) (sym here) (rows_are_assembled index lt)
