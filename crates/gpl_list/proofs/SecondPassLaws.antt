-- Lines that are assembled one after the other.
use Rattle.std.proofs.Common.{◌≡◌, ℕ, ◌+◌, ◌≤◌, ◌<◌, List, [], ◌∷◌, ◌++◌, Bool, true, false, Ok, Err, length, map, refl, sym, ap, subst, ◌∙◌, arith}
use Rattle.std.specs.Prelude.{⊤, Result, nat_lt, if◌then◌else◌}
use Rattle.std.proofs.lemmas.Bool.Decides.{nat_tests}
use Rattle.std.proofs.lemmas.List.{map-append}
use Rattle.source_defs.specs.Refusals.{Refusal, ◌>>=◌, at_line}
use Rattle.expression_defs.specs.Symbols.{Names}
use Rattle.expression_defs.specs.Layout.{assembled_lines}
use Rattle.gpl_defs.specs.Image.{Image}
use Rattle.gpl_source_defs.specs.declared.causes.GplCause.{GplCause}
use Rattle.gpl_source_defs.specs.declared.location.Location.{Location}
use Rattle.gpl_source_defs.specs.Locations.{Line, place}
use Rattle.gpl_source_defs.specs.Programs.{AssembledLine, assembled_line, assembled_at, image}
use Rattle.gpl_lines.specs.declared.failure.Failure.{Failure}
use Rattle.gpl_lines.specs.declared.failure.Failure.TheVariants as failure
use Rattle.gpl_asm.specs.Errors.{refusal_at}
use Rattle.gpl_list_defs.specs.Rows as spec
use Rattle.gpl_list.specs.declared.rows.Row.{Row}
use Rattle.gpl_list.specs.Reading.{model_of_row, RowOf, Describes, onto}
use Rattle.gpl_list.specs.SecondPass.{Fits, AssembledAs, AssemblesRow, AssemblesRows}

pub none_left : (rows : List Row) → length rows ≡ 0 → rows ≡ []
none_left [] e = refl
none_left (row ∷ rows) e = absurd (omega (arith, e))

-- ---- outcomes of lines

module _ (known : Names) where
  abbrev Answer : Type 0
  Answer = Result (List AssembledLine) (Refusal GplCause)

  abbrev one_more : List Line → Line → Answer → Answer
  one_more before line answer =
      answer >>= λ earlier. at_line line.number (assembled_line known before earlier line) >>= λ found. Ok (found ∷ earlier)

  one_assembled : (before : List Line) (line : Line) (earlier : List AssembledLine) (answer : Result AssembledLine GplCause)
      → assembled_lines (assembled_line known) before ≡ Ok earlier → assembled_at known (place before line) line.statement earlier ≡ answer
      → assembled_lines (assembled_line known) (line ∷ before) ≡ (at_line line.number answer >>= λ found. Ok (found ∷ earlier))
  one_assembled before line earlier answer e came =
      ap (one_more before line) e ∙ ap (λ answer. at_line line.number answer >>= λ found. Ok (found ∷ earlier)) came

  refused_on : (rest before : List Line) (refused : Refusal GplCause) → assembled_lines (assembled_line known) before ≡ Err refused
      → assembled_lines (assembled_line known) (onto rest before) ≡ Err refused
  refused_on [] before refused e = e
  refused_on (line ∷ rest) before refused e = refused_on rest (line ∷ before) refused (ap (one_more before line) e)

-- ---- the lines before a number

abbrev Numbered : List Line → Type 0
Numbered [] = ⊤
Numbered (line ∷ before) = (line.number ≡ length before + 1) × Numbered before

kept : (number : ℕ) (line : Line) (before : List Line) (b : Bool) → nat_lt line.number number ≡ b
    → spec.lines_before number (line ∷ before) ≡ (if b then line ∷ spec.lines_before number before else spec.lines_before number before)
kept number line before b e = ap (λ b. if b then line ∷ spec.lines_before number before else spec.lines_before number before) e

all_before : (number : ℕ) (lines : List Line) → Numbered lines → length lines < number → spec.lines_before number lines ≡ lines
all_before number [] numbered less = refl
all_before number (line ∷ before) numbered less =
    let at = numbered.0 in
    let is : nat_lt line.number number ≡ true = grind (arith, nat_tests, at, less) in
    kept number line before true is ∙ ap (λ lines. line ∷ lines) (all_before number before numbered.1 (omega (arith, less)))

module _ (texts : List (ℕ × List ℕ)) (known : Names) where
  none_after : (number : ℕ) (before rest : List Line) (rows : List Row) → Describes texts known before rest rows → number ≤ length before + 1
      → spec.lines_before number (onto rest before) ≡ spec.lines_before number before
  none_after number before [] rows all le = refl
  none_after number before (line ∷ rest) [] all le = absurd all
  none_after number before (line ∷ rest) (row ∷ rows) all le =
      let at = all.0.numbered in
      let not : nat_lt line.number number ≡ false = grind (arith, nat_tests, at, le) in
      none_after number (line ∷ before) rest rows all.1 (omega (arith, le)) ∙ kept number line before false not

  -- ---- some lines are assembled, and others are left

  abbrev shown : List Line → List spec.Row
  shown lines = spec.rows (spec.placed_bytes known) texts lines

  pub record Going (lines : List Line) (left : List Row) (made : Image) (rows : List Row) : Type 0 where
    pub done : List Line
    pub rest : List Line
    pub are : onto rest done ≡ lines
    pub describes : Describes texts known done rest left
    pub numbered : Numbered done
    pub earlier : List AssembledLine
    pub assembled_is : assembled_lines (assembled_line known) done ≡ Ok earlier
    pub made_is : made ≡ image earlier
    pub rows_are : map model_of_row rows ≡ shown done

  -- the next line says something by all names, and has room
  pub next_fits : (lines : List Line) (row : Row) (next : List Row) (made : Image) (rows : List Row) → Going lines (row ∷ next) made rows
      → Fits known row.at row.text.items
  next_fits lines row next made rows g = by g.rest g.describes
    where
      by : (rest : List Line) → Describes texts known g.done rest (row ∷ next) → Fits known row.at row.text.items
      by [] all = absurd all
      by (line ∷ rest) all = (line.statement, all.0.parsed, all.0.room)

  pub going_end : {A : Type 0} (value : A) (lines : List Line) (made : Image) (rows : List Row) → Going lines [] made rows
      → AssemblesRows texts known lines (Ok value) rows
  going_end value lines made rows g = by g.rest g.are g.describes
    where
      by : (rest : List Line) → onto rest g.done ≡ lines → Describes texts known g.done rest [] → AssemblesRows texts known lines (Ok value) rows
      by [] are all = (
        g.earlier,
        ap (assembled_lines (assembled_line known)) (sym are) ∙ g.assembled_is,
        g.rows_are ∙ ap shown are,
      )
      by (line ∷ rest) are all = absurd all

  -- what is asked of a line that is assembled, by its row
  module _ {A : Type 0} (see : A → List ℕ) (lines : List Line) (row : Row) (next : List Row) (made left : Image) (rows : List Row) where
    abbrev Asked : Result A Failure → Type 0
    Asked result = AssemblesRow see known row.at row.text.items made result left

    came : (g : Going lines (row ∷ next) made rows) (line : Line) (result : Result A Failure) → RowOf texts known g.done line row → Asked result
        → AssembledAs see known (place g.done line) line.statement g.earlier result left
    came g line result is assembles =
        subst (λ (at : Location). AssembledAs see known at line.statement g.earlier result left) is.at
        (assembles line.statement g.earlier is.parsed g.made_is)

    pub going_more : (value : A) (new : Row) (after : List Row) → Going lines (row ∷ next) made rows → Asked (Ok value)
        → model_of_row new ≡ record (model_of_row row) { bytes = see value } → after ≡ rows ++ new ∷ [] → Going lines next left after
    going_more value new after g assembles given more = by g.rest g.are g.describes
      where
        by : (rest : List Line) → onto rest g.done ≡ lines → Describes texts known g.done rest (row ∷ next) → Going lines next left after
        by [] are all = absurd all
        by (line ∷ rest) are all =
            let is = all.0 in
            let c = came g line (Ok value) is assembles in
            let same : model_of_row new ≡ spec.row_of (spec.placed_bytes known) texts g.done line =
            given
            ∙ (ap (λ (row : spec.Row). record row { bytes = see value }) is.is
            ∙ ap (λ bytes. record (spec.row_of spec.no_bytes texts g.done line) { bytes = bytes }) c.3) in
            record {
              done = line ∷ g.done;
              rest = rest;
              are = are;
              describes = all.1;
              numbered = (is.numbered, g.numbered);
              earlier = c.0 ∷ g.earlier;
              assembled_is = one_assembled known g.done line g.earlier (Ok c.0) g.assembled_is c.1;
              made_is = c.2;
              rows_are = ap (map model_of_row) more
                  ∙ (map-append model_of_row rows (new ∷ [])
                  ∙ (ap (λ rows. rows ++ model_of_row new ∷ []) g.rows_are ∙ ap (λ row. shown g.done ++ row ∷ []) same));
            }

    pub going_refused : (B : Type 0) (failed : Failure) → Going lines (row ∷ next) made rows → Asked (Err failed)
        → AssemblesRows {A = B} texts known lines (Err (refusal_at row.number failed)) rows
    going_refused B failure.Memory g assembles = tt
    going_refused B (failure.Refused cause) g assembles = by g.rest g.are g.describes
      where
        by : (rest : List Line) → onto rest g.done ≡ lines → Describes texts known g.done rest (row ∷ next)
            → AssemblesRows {A = B} texts known lines (Err (refusal_at row.number (failure.Refused cause))) rows
        by [] are all = absurd all
        by (line ∷ rest) are all =
            let is = all.0 in
            let c = came g line (Err (failure.Refused cause)) is assembles in
            let refused : assembled_lines (assembled_line known) (line ∷ g.done) ≡ Err (record { line = line.number; cause = cause }) =
            one_assembled known g.done line g.earlier (Err cause) g.assembled_is c.0 in
            let number : row.number ≡ line.number = ap (λ (row : spec.Row). row.number) is.is in
            let at : row.number ≡ length g.done + 1 = number ∙ is.numbered in
            let front : spec.lines_before row.number lines ≡ g.done =
            ap (spec.lines_before row.number) (sym are)
            ∙ (none_after row.number g.done (line ∷ rest) (row ∷ next) all (omega (arith, at))
            ∙ all_before row.number g.done g.numbered (omega (arith, at))) in (
              ap (assembled_lines (assembled_line known)) (sym are)
                  ∙ (refused_on known rest (line ∷ g.done) (record { line = line.number; cause = cause }) refused
                  ∙ ap (λ number. Err (record { line = number; cause = cause })) (sym number)),
              g.rows_are ∙ ap shown (sym front),
            )
