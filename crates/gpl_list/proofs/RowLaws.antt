-- Rows of lines, one after the other.
use Rattle.std.proofs.Common.{◌≡◌, ℕ, ◌+◌, ◌≤◌, List, [], ◌∷◌, ◌++◌, Some, None, Ok, length, map, true, refl, sym, ap, subst, ◌∙◌}
use Rattle.std.specs.Prelude.{Option}
use Rattle.expression_defs.specs.Symbols.{Names}
use Rattle.expression_defs.specs.Growing.{Grows, is_closed}
use Rattle.expression_defs.specs.Layout.{set_or}
use Rattle.source_defs.proofs.RefusalLaws.{bound}
use Rattle.expression_defs.proofs.DefinedNames.{grown_on}
use Rattle.gpl_source_defs.specs.declared.location.Location.{Location}
use Rattle.gpl_source_defs.specs.Statements.{Statement, declared_size}
use Rattle.gpl_source_defs.specs.Locations.{Line, location, place, origin_of}
use Rattle.gpl_source_defs.specs.FirstChecks.{Checked, checked, check, line_of, names, parsed, label_entry, label_value}
use Rattle.gpl_source_defs.specs.Growing.{is_unresolved}
use Rattle.gpl_source_defs.proofs.CheckLaws.{is_accepted}
use Rattle.gpl_source_defs.proofs.GrowingLaws.{parse_stays}
use Rattle.gpl_asm.specs.declared.taken.TakenLine.{TakenLine}
use Rattle.gpl_asm.specs.Building.{DescribesLine}
use Rattle.gpl_asm.proofs.LineLaws.{place_is}
use Rattle.gpl_asm.proofs.TakeLaws.{label_grows}
use Rattle.gpl_list_defs.specs.Rows as spec
use Rattle.gpl_list.specs.declared.rows.Row.{Row}
use Rattle.gpl_list.specs.Reading.{model_of_address, named, IsTaken, RowOf, Describes, onto}

pub onto_more : (before rest : List Line) (line : Line) → onto (rest ++ line ∷ []) before ≡ line ∷ onto rest before
onto_more before [] line = refl
onto_more before (first ∷ rest) line = onto_more (first ∷ before) rest line

pub describes_more : (texts : List (ℕ × List ℕ)) (later : Names) (before rest : List Line) (rows : List Row) (line : Line) (row : Row)
    → Describes texts later before rest rows → RowOf texts later (onto rest before) line row
    → Describes texts later before (rest ++ line ∷ []) (rows ++ row ∷ [])
describes_more texts later before [] [] line row all one = (one, tt)
describes_more texts later before [] (other ∷ rows) line row all one = absurd all
describes_more texts later before (first ∷ rest) [] line row all one = absurd all
describes_more texts later before (first ∷ rest) (other ∷ rows) line row all one =
    (all.0, describes_more texts later (first ∷ before) rest rows line row all.1 one)

-- the names of a line
pub names_are : (label : Option (List ℕ)) (value number : ℕ)
    → map (λ entry. record { name = entry.0; value = entry.1; line = number }) (label_entry label value) ≡ named label value number
names_are None value number = refl
names_are (Some name) value number = refl

-- what the first checks left of a line
pub checked_of : (lines : List Line) (number : ℕ) (text : List ℕ) (line : Line) → check lines number text ≡ Ok line
    → (found : Checked) × (checked (names lines) (location lines) text ≡ Ok found) × (line_of (location lines) number found ≡ line)
checked_of lines number text line e =
    let b = bound (checked (names lines) (location lines) text) _ line e in
    let same : line_of (location lines) number b.0 ≡ line = cc (b.2) in
    (b.0, b.1, same)

-- the row of a line that was taken after others
module _ (texts : List (ℕ × List ℕ)) (lines : List Line) (text : List ℕ) (found : Checked) (known : TakenLine) (row : Row)
    (e : checked (names lines) (location lines) text ≡ Ok found)
    (describes : DescribesLine lines (line_of (location lines) (length lines + 1) found) known)
    (taken : IsTaken (length lines + 1) known.at (model_of_address known) text row)
    (there : spec.text_of texts (length lines + 1) ≡ text) where
  abbrev line : Line
  line = line_of (location lines) (length lines + 1) found

  abbrev statement : Statement
  statement = found.statement

  place_there : place lines line ≡ location lines
  place_there = place_is (length lines + 1) found lines

  at_there : row.at ≡ location lines
  at_there = taken.at ∙ (describes.at ∙ place_there)

  address_there : model_of_address known ≡ spec.address (place lines line) statement
  address_there =
      ap (λ (origin : Option Location). (set_or origin known.at).number) describes.origin
      ∙ (ap (λ (at : Location). (set_or (origin_of (location lines) statement) at).number) describes.at
      ∙ ap (λ (at : Location). (set_or (origin_of at statement) (place lines line)).number) (sym place_there))

  parsed_later : (later : Names) → Grows (names (line ∷ lines)) later → parsed later row.at row.text.items ≡ Ok statement
  parsed_later later more =
      let through = is_accepted (names lines) (location lines) text found e in
      let grows : Grows (names lines) later =
      grown_on (names lines) (names (line ∷ lines)) later (label_grows (names lines) found.label (label_value (location lines) statement) through.fresh) more in
      let closed : is_closed is_unresolved (parsed (names lines) (location lines) text) ≡ true = ap (is_closed is_unresolved) through.parsed in
      ap (λ (at : Location). parsed later at row.text.items) at_there
      ∙ (ap (λ (row : spec.Row). parsed later (location lines) row.text) taken.is
      ∙ (parse_stays (names lines) later grows (location lines) text closed ∙ through.parsed))

  pub row_of : (later : Names) → Grows (names (line ∷ lines)) later → RowOf texts later lines line row
  row_of later more = record {
    numbered = refl;
    at = taken.at ∙ describes.at;
    is = taken.is
        ∙ (ap (λ at. record { number = length lines + 1; at = at; bytes = []; text = text }) address_there
        ∙ ap (λ text. record { number = length lines + 1; at = spec.address (place lines line) statement; bytes = []; text = text }) (sym there));
    parsed = parsed_later later more;
    room = subst (λ (at : Location). at.number + declared_size statement ≤ 65536) (sym taken.at) describes.room;
  }
