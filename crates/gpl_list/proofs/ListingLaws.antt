-- Listings of lines that were read.
use Rattle.std.proofs.Common.{◌≡◌, ℕ, List, [], ◌∷◌, ◌++◌, Ok, Err, map, sym, ap, ◌∙◌, append_assoc, append-nil}
use Rattle.source_defs.specs.Refusals.{Refusal}
use Rattle.expression_defs.specs.Symbols.{Names}
use Rattle.expression_defs.specs.Layout.{assembled_lines}
use Rattle.expression_defs.proofs.DefinedNames.{grown_not}
use Rattle.gpl_source_defs.specs.declared.causes.GplCause.{GplCause}
use Rattle.gpl_source_defs.specs.Locations.{Line}
use Rattle.gpl_source_defs.specs.FirstChecks.{names}
use Rattle.gpl_source_defs.specs.Programs.{AssembledLine, assembled_line}
use Rattle.gpl_list_defs.specs.Rows as spec
use Rattle.gpl_list_defs.specs.Listing.{assembled_listing}
use Rattle.gpl_list.specs.declared.rows.Row.{Row}
use Rattle.gpl_list.specs.Reading.{model_of_row, Describes, DescribesAll, onto}

-- ---- rows without bytes

unplaced_from : (texts : List (ℕ × List ℕ)) (later : Names) (before rest : List Line) (rows : List Row) → Describes texts later before rest rows
    → spec.rows spec.no_bytes texts before ++ map model_of_row rows ≡ spec.rows spec.no_bytes texts (onto rest before)
unplaced_from texts later before [] [] all = append-nil (spec.rows spec.no_bytes texts before)
unplaced_from texts later before [] (row ∷ rows) all = absurd all
unplaced_from texts later before (line ∷ rest) [] all = absurd all
unplaced_from texts later before (line ∷ rest) (row ∷ rows) all =
    ap (λ row. spec.rows spec.no_bytes texts before ++ row ∷ map model_of_row rows) all.0.is
    ∙ (sym (append_assoc (spec.rows spec.no_bytes texts before) (spec.row_of spec.no_bytes texts before line ∷ []) (map model_of_row rows))
    ∙ unplaced_from texts later (line ∷ before) rest rows all.1)

pub unplaced : (texts : List (ℕ × List ℕ)) (lines : List Line) (rows : List Row) → DescribesAll texts lines rows
    → map model_of_row rows ≡ spec.rows spec.no_bytes texts lines
unplaced texts lines rows (rest, are, all) =
    unplaced_from texts (names lines) [] rest rows (all (names lines) (grown_not (names lines))) ∙ ap (spec.rows spec.no_bytes texts) are

-- ---- the listings

module _ (texts : List (ℕ × List ℕ)) (lines : List Line) (shown : List spec.Row) (named : List spec.NameRow) where
  pub listed_whole : (known : Names) (found : List AssembledLine) → known ≡ names lines → assembled_lines (assembled_line known) lines ≡ Ok found
      → shown ≡ spec.rows (spec.placed_bytes known) texts lines → named ≡ spec.name_rows lines
      → record { rows = shown; names = named; refused = Ok tt } ≡ assembled_listing texts lines (assembled_lines (assembled_line (names lines)) lines)
  listed_whole known found same e rows names_are =
      let e' : assembled_lines (assembled_line (names lines)) lines ≡ Ok found = ap (λ (known : Names). assembled_lines (assembled_line known) lines) (sym same)
      ∙ e in
      let all : shown ≡ spec.rows (spec.placed_bytes (names lines)) texts lines =
      rows ∙ ap (λ (known : Names). spec.rows (spec.placed_bytes known) texts lines) same in
      ap (λ (rows : List spec.Row). record { rows = rows; names = named; refused = Ok tt }) all
      ∙ (ap (λ (names_are : List spec.NameRow). record { rows = spec.rows (spec.placed_bytes (names lines)) texts lines; names = names_are; refused = Ok tt })
      names_are
      ∙ sym (ap (assembled_listing texts lines) e'))

  pub listed_front : (known : Names) (refused : Refusal GplCause) → known ≡ names lines → assembled_lines (assembled_line known) lines ≡ Err refused
      → shown ≡ spec.rows (spec.placed_bytes known) texts (spec.lines_before refused.line lines) → named ≡ []
      → record { rows = shown; names = named; refused = Err refused } ≡ assembled_listing texts lines (assembled_lines (assembled_line (names lines)) lines)
  listed_front known refused same e rows none =
      let front = spec.lines_before refused.line lines in
      let e' : assembled_lines (assembled_line (names lines)) lines ≡ Err refused = ap (λ (known : Names). assembled_lines (assembled_line known) lines)
      (sym same) ∙ e in
      let all : shown ≡ spec.rows (spec.placed_bytes (names lines)) texts front =
      rows ∙ ap (λ (known : Names). spec.rows (spec.placed_bytes known) texts front) same in
      ap (λ (rows : List spec.Row). record { rows = rows; names = named; refused = Err refused }) all
      ∙ (ap (λ (names_are : List spec.NameRow).
      record { rows = spec.rows (spec.placed_bytes (names lines)) texts front; names = names_are; refused = Err refused }) none
      ∙ sym (ap (assembled_listing texts lines) e'))
