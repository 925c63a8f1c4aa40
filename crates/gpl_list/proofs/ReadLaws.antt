-- Lines that are read one after the other.
use Rattle.std.proofs.Common.{◌≡◌, ℕ, ◌+◌, List, [], ◌∷◌, ◌++◌, length, map, refl, sym, ap, subst, ◌∙◌}
use Rattle.std.specs.Prelude.{Ok}
use Rattle.expression_defs.specs.Expression.{Value}
use Rattle.expression_defs.specs.Growing.{Grows}
use Rattle.expression_defs.proofs.DefinedNames.{grown_on}
use Rattle.gpl_source_defs.specs.Locations.{Line, location}
use Rattle.gpl_source_defs.specs.FirstChecks.{Checked, checked, check, line_of, names, label_value}
use Rattle.gpl_source_defs.proofs.CheckLaws.{is_accepted}
use Rattle.gpl_asm.specs.declared.taken.TakenLine.{TakenLine}
use Rattle.gpl_asm.specs.Building.{IsAfter, DescribesLine}
use Rattle.gpl_asm.proofs.TakeLaws.{label_grows}
use Rattle.gpl_list_defs.specs.Rows as spec
use Rattle.gpl_list.specs.declared.rows.Row.{Row}
use Rattle.gpl_list.specs.declared.rows.NameRow.{NameRow}
use Rattle.gpl_list.specs.declared.read.ReadLines.{ReadLines}
use Rattle.gpl_list.specs.Reading.{model_of_address, model_of_name, named, IsTaken, OneMore, RowOf, Describes, DescribesAll, Keeps}
use Rattle.gpl_list.proofs.RowLaws.{onto_more, describes_more, names_are, checked_of, row_of}

pub keeps_none : (texts : List (ℕ × List ℕ)) (read : ReadLines) → IsAfter [] read.builder → read.rows.items ≡ [] → read.names.items ≡ []
    → Keeps texts [] read
keeps_none texts read after_lines rows names = record {
  after_lines = after_lines;
  rows = ([], refl, λ later grows. subst (Describes texts later [] []) (sym rows) tt);
  names = ap (map model_of_name) names;
}

module _ (texts : List (ℕ × List ℕ)) (lines : List Line) (text : List ℕ) (known : TakenLine) (number : ℕ)
    (is : number ≡ length lines + 1) (there : spec.text_of texts number ≡ text) where
  rows_more : (found : Checked) (old new : List Row) → checked (names lines) (location lines) text ≡ Ok found
      → DescribesLine lines (line_of (location lines) (length lines + 1) found) known → OneMore number known.at (model_of_address known) text old new
      → DescribesAll texts lines old → DescribesAll texts (line_of (location lines) (length lines + 1) found ∷ lines) new
  rows_more found old new e describes (row, more, taken) (rest, are, all) =
      let line = line_of (location lines) (length lines + 1) found in
      let fresh = (is_accepted (names lines) (location lines) text found e).fresh in
      let grows : Grows (names lines) (names (line ∷ lines)) = label_grows (names lines) found.label (label_value (location lines) found.statement) fresh in
      let taken' : IsTaken (length lines + 1) known.at (model_of_address known) text row = subst (λ n. IsTaken n known.at (model_of_address known) text row) is
      taken in
      let there' : spec.text_of texts (length lines + 1) ≡ text = subst (λ n. spec.text_of texts n ≡ text) is there in (
        rest ++ line ∷ [],
        onto_more [] rest line ∙ ap (λ before. line ∷ before) are,
        λ later more'.
            let one = row_of texts lines text found known row e describes taken' there' later more' in
            let after_lines = subst (λ before. RowOf texts later before line row) (sym are) one in
            subst (Describes texts later [] (rest ++ line ∷ [])) (sym more)
            (describes_more texts later [] rest old line row (all later (grown_on (names lines) (names (line ∷ lines)) later grows more')) after_lines),
      )

  names_more : (line : Line) (old new : List NameRow) → line.number ≡ number → DescribesLine lines line known
      → map model_of_name new ≡ map model_of_name old ++ named known.label known.value number → map model_of_name old ≡ spec.name_rows lines
      → map model_of_name new ≡ spec.name_rows (line ∷ lines)
  names_more line old new same describes more are =
      let entries : spec.names_in line ≡ named known.label known.value number =
      ap (λ (entries : List (List ℕ × Value)). map (λ entry. record { name = entry.0; value = entry.1; line = line.number }) entries) describes.names
      ∙ (names_are known.label known.value line.number ∙ ap (named known.label known.value) same) in
      more ∙ (ap (λ names. names ++ named known.label known.value number) are ∙ ap (λ names. spec.name_rows lines ++ names) (sym entries))

  pub keeps_more : (line : Line) (old new : ReadLines) → check lines (length lines + 1) text ≡ Ok line → IsAfter (line ∷ lines) new.builder
      → DescribesLine lines line known → OneMore number known.at (model_of_address known) text old.rows.items new.rows.items
      → map model_of_name new.names.items ≡ map model_of_name old.names.items ++ named known.label known.value number
      → Keeps texts lines old → Keeps texts (line ∷ lines) new
  keeps_more line old new e after_lines describes more named keeps =
      let b = checked_of lines (length lines + 1) text line e in
      let describes' = subst (λ (line : Line). DescribesLine lines line known) (sym b.2) describes in
      let numbered : line.number ≡ number = ap (λ (line : Line). line.number) (sym b.2) ∙ sym is in
      record {
        after_lines = after_lines;
        rows = subst (λ (line : Line). DescribesAll texts (line ∷ lines) new.rows.items) b.2
            (rows_more b.0 old.rows.items new.rows.items b.1 describes' more keeps.rows);
        names = names_more line old.names.items new.names.items numbered describes named keeps.names;
      }
