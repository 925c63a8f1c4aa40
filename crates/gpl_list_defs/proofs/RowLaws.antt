-- The rows of a source give its program.
use Rattle.std.proofs.Common.{◌≡◌, ℕ, List, [], ◌∷◌, ◌++◌, Ok, Err, refl, sym, ap, ◌∙◌}
use Rattle.std.specs.Prelude.{Result, map, Option, Bool, true, false, if◌then◌else◌}
use Rattle.std.specs.FinMap.{empty, insert}
use Rattle.source_defs.specs.Refusals.{Refusal, ◌>>=◌, at_line}
use Rattle.expression_defs.specs.Expression.{Value}
use Rattle.expression_defs.specs.Symbols.{Names, predefined, look_up}
use Rattle.source_defs.specs.Lines.{line_texts}
use Rattle.expression_defs.specs.Layout.{line_layout, assembled_lines}
use Rattle.expression_defs.specs.Layout as layout
use Rattle.source_defs.proofs.RefusalLaws.{bound}
use Rattle.gpl_defs.specs.Image.{Image, placed}
use Rattle.gpl_source_defs.specs.declared.causes.GplCause.{GplCause}
use Rattle.gpl_source_defs.specs.declared.causes.GplCause.TheVariants.{Overlap}
use Rattle.gpl_source_defs.specs.declared.location.Location.{Location}
use Rattle.gpl_source_defs.specs.Statements.{Statement, Grom, Aorg}
use Rattle.gpl_source_defs.specs.Locations.{Line, place}
use Rattle.gpl_source_defs.specs.FirstChecks.{check, names}
use Rattle.gpl_source_defs.specs.SecondChecks.{Outcome, outcome}
use Rattle.gpl_source_defs.specs.Programs.{AssembledLine, assembled_line, assembled_at, overlaps, image, bytes_in, program_by, program_after}
use Rattle.gpl_list_defs.specs.Rows.{Row, NameRow, address, outcome_bytes, placed_bytes, row_of, rows, names_in, name_rows}
use Rattle.gpl_list_defs.specs.Listing.{assembled_listing, layout_listing}
use Rattle.gpl_list_defs.specs.Laws.{with_rows, with_names, ListsOf, ListingsGivePrograms}

-- ---- rows and names after others

with_rows_append : (at : Image) (first second : List Row) → with_rows at (first ++ second) ≡ with_rows (with_rows at first) second
with_rows_append at [] second = refl
with_rows_append at (row ∷ first) second = with_rows_append (placed at row.at row.bytes) first second

with_names_append : (known : Names) (first second : List NameRow) → with_names known (first ++ second) ≡ with_names (with_names known first) second
with_names_append known [] second = refl
with_names_append known (row ∷ first) second = with_names_append (insert known row.name row.value) first second

entries_in : (known : Names) (number : ℕ) (entries : List (List ℕ × Value))
    → with_names known (map (λ entry. record { name = entry.0; value = entry.1; line = number }) entries) ≡ layout.with_names known entries
entries_in known number [] = refl
entries_in known number (entry ∷ entries) = entries_in (insert known entry.0 entry.1) number entries

pub names_give : (lines : List Line) → with_names predefined (name_rows lines) ≡ names lines
names_give [] = refl
names_give (line ∷ before) =
    with_names_append predefined (name_rows before) (names_in line)
    ∙ rw (names_give before) (entries_in (names before) line.number line.names)

-- ---- the bytes of a line are at its address

at_address : (look : List ℕ → Option Value) (at : Location) (statement : Statement) (to : Image) (found : Outcome) → outcome look at statement ≡ Ok found
    → placed to (address at statement) (bytes_in found) ≡ placed to at.number (bytes_in found)
unfolding outcome
at_address look at (Grom number) to found e = cc e
at_address look at (Aorg number) to found e = cc e
at_address look at _ to found e = refl

-- the outcome of a line
record Came (known : Names) (at : Location) (statement : Statement) (line : AssembledLine) : Type 0 where
  at_is : line.at ≡ at.number
  came : outcome (look_up known) at statement ≡ Ok line.outcome

abbrev room_by : Bool → AssembledLine → Result AssembledLine GplCause
room_by full line = if full then Err Overlap else Ok line

has_room : (full : Bool) (line found : AssembledLine) → room_by full line ≡ Ok found → line ≡ found
has_room true line found e = cc e
has_room false line found e = cc e

came_to : (known : Names) (at : Location) (statement : Statement) (earlier : List AssembledLine) (found : AssembledLine)
    → assembled_at known at statement earlier ≡ Ok found → Came known at statement found
came_to known at statement earlier found e =
    let b = bound (outcome (look_up known) at statement) _ found e in
    let line : AssembledLine = record { at = at.number; outcome = b.0 } in
    let same : line ≡ found = has_room (overlaps (image earlier) at.number (bytes_in b.0)) line found b.2 in
    record {
      at_is = ap (λ (line : AssembledLine). line.at) (sym same);
      came = b.1 ∙ ap (λ (line : AssembledLine). Ok line.outcome) same;
    }

at_line_ok : {A : Type 0} (number : ℕ) (answer : Result A GplCause) (found : A) → at_line number answer ≡ Ok found → answer ≡ Ok found
at_line_ok number (Ok value) found e = cc e
at_line_ok number (Err cause) found e = cc e

-- the rows of lines that are assembled make their image
module _ (known : Names) (texts : List (ℕ × List ℕ)) where
  abbrev shown : List Line → List Row
  shown lines = rows (placed_bytes known) texts lines

  one_more : (before : List Line) (line : Line) (earlier : List AssembledLine) (found : AssembledLine) → with_rows empty (shown before) ≡ image earlier
      → Came known (place before line) line.statement found → with_rows empty (shown (line ∷ before)) ≡ image (found ∷ earlier)
  one_more before line earlier found is came =
      let at = place before line in
      let bytes : placed_bytes known at line.statement ≡ bytes_in found.outcome = ap outcome_bytes came.came in
      with_rows_append empty (shown before) (row_of (placed_bytes known) texts before line ∷ [])
      ∙ rw (is, bytes)
      (rw (at_address (look_up known) at line.statement (image earlier) found.outcome came.came, came.at_is) refl)

  pub rows_give : (lines : List Line) (found : List AssembledLine) → assembled_lines (assembled_line known) lines ≡ Ok found → with_rows empty (shown lines) ≡ image found
  rows_give [] found e = let same : [] ≡ found = cc e in ap image same
  rows_give (line ∷ before) found e =
      let b = bound (assembled_lines (assembled_line known) before) _ found e in
      let c = bound (at_line line.number (assembled_line known before b.0 line)) _ found b.2 in
      let same : c.0 ∷ b.0 ≡ found = cc (c.2) in
      let came = came_to known (place before line) line.statement b.0 c.0 (at_line_ok line.number (assembled_line known before b.0 line) c.0 c.1) in
      one_more before line b.0 c.0 (rows_give before b.0 b.1) came ∙ ap image same

-- ---- the listing of a source

assembled_gives : (texts : List (ℕ × List ℕ)) (lines : List Line) (answer : Result (List AssembledLine) (Refusal GplCause))
    → assembled_lines (assembled_line (names lines)) lines ≡ answer
    → ListsOf (assembled_listing texts lines answer) (answer >>= λ found. Ok (program_by lines found))
assembled_gives texts lines (Ok found) e =
    record { image = rows_give (names lines) texts lines found e; names = names_give lines; accepted = refl }
assembled_gives texts lines (Err refused) e = refl

layout_gives : (texts : List (ℕ × List ℕ)) (answer : Result (List Line) (Refusal GplCause))
    → ListsOf (layout_listing texts answer) (answer >>= program_after)
layout_gives texts (Ok lines) = assembled_gives texts lines (assembled_lines (assembled_line (names lines)) lines) refl
layout_gives texts (Err refused) = refl

pub listings_give_programs : ListingsGivePrograms
listings_give_programs source = layout_gives (line_texts source) (line_layout check (line_texts source))
