-- The rows of names are the names that the lines of the source define.
use Rattle.std.proofs.Common.{◌≡◌, ℕ, ◌+◌, ◌<◌, length, arith, true, List, [], ◌∷◌, ◌++◌, append_assoc, Ok, refl, sym}
use Rattle.std.proofs.Common.{ap, subst, ◌∙◌}
use Rattle.std.proofs.lemmas.List.{length-map}
use Rattle.std.specs.Prelude.{map, slice_index_or}
use Rattle.std.specs.List.{list_all}
use Rattle.source_defs.specs.Names.{is_kept_name}
use Rattle.expression_defs.specs.Expression.{Value, Absolute}
use Rattle.source_defs.specs.Lines.{numbered}
use Rattle.expression_defs.specs.Layout.{line_layout}
use Rattle.object_defs.specs.declared.spot.Spot.TheVariants as spot
use Rattle.asm_defs.specs.Locations.{Line}
use Rattle.asm_defs.specs.FirstChecks.{check, line_of, external_entries, refs_in}
use Rattle.line_laws.specs.KnownLines.{KnownLine, names_in, all_names, are_plain, is_plain, is_plain_statement}
use Rattle.line_laws.proofs.LayoutLines.{layout_list, plain_free}
use Rattle.line_laws.proofs.Whole.{front, final, whole_layout}
use Rattle.native_interp.specs.declared.addresses.TheConstants.{GBOOT}
use Rattle.line_table.specs.Table.{defined}
use Rattle.line_table.specs.Rows.{names_of_lines, NamesAreDefined, named, no_name, IsNameRow}
use Rattle.line_table.specs.declared.line_row.NameRow.{NameRow}
use Rattle.line_table.proofs.Places.{index_map, tested}
use Rattle.line_table.proofs.Known.{last, ending, front_texts, front_lines, are_known, lines_are}
use Rattle.line_laws.proofs.Small.{both, append_none}

own_names : (line : KnownLine) (number : ℕ) → is_plain line ≡ true → (line_of number line.found).names ≡ names_in line
own_names line number plain =
    append_none (names_in line) (external_entries (refs_in line.found.statement))
    (ap (λ names. external_entries names) (plain_free line.found.statement (both (is_plain_statement line.found.statement) _ plain).0).refs)

layout_names : (some : List KnownLine) (before : List Line) (number : ℕ) → are_plain some ≡ true → names_of_lines (layout_list before number some) ≡ names_of_lines before ++ all_names some
layout_names [] before number plain = sym (append_none (names_of_lines before) [] refl)
layout_names (line ∷ some) before number plain =
    let b = both (is_plain line) (are_plain some) plain in
    layout_names some (line_of number line.found ∷ before) (number + 1) b.1
    ∙ (ap (λ names. (names_of_lines before ++ names) ++ all_names some) (own_names line number b.0)
    ∙ append_assoc (names_of_lines before) (names_in line) (all_names some))

abbrev every : List Line
every =
    final 0x1000 front_texts last defined front_lines ending (spot.Absolute GBOOT) are_known
    ∷ front 0x1000 front_texts last defined front_lines ending (spot.Absolute GBOOT) are_known

every_names : names_of_lines every ≡ defined
every_names =
    append_none (names_of_lines (layout_list [] 1 front_lines)) [] refl
    ∙ (layout_names front_lines [] 1 are_known.plain ∙ are_known.names)

pub names_are_defined : NamesAreDefined
names_are_defined = record {
  all = every;
  earlier_layout = subst (λ texts. line_layout check (numbered 1 texts) ≡ Ok every) lines_are
      (whole_layout 0x1000 front_texts last defined front_lines ending (spot.Absolute GBOOT) are_known);
  names = every_names;
  new = are_known.new;
}

-- a row of the names
pub name_found : (index : ℕ) (row : NameRow) → named row ≡ slice_index_or defined index no_name → IsNameRow index row
name_found index row is = record { is = is; are_defined = names_are_defined }

all_kept : list_all (λ (name : List ℕ × Value). is_kept_name name.0) defined ≡ true
all_kept = refl

-- what is at a number among names with their values
module _ {A : Type 0} (items : List A) (text : A → List ℕ) (value : A → ℕ) (d : A) (are : map (λ item. (text item, Absolute (value item))) items ≡ defined) (index : ℕ) (lt : index < length defined) where
  pub named_at : (text (slice_index_or items index d), Absolute (value (slice_index_or items index d))) ≡ slice_index_or defined index no_name
  named_at =
      let size : length items ≡ length defined = sym (length-map items (λ item. (text item, Absolute (value item)))) ∙ ap length are in
      sym (index_map (λ item. (text item, Absolute (value item))) items index d no_name (omega (arith, lt, size))) ∙ ap (λ names. slice_index_or names index no_name) are

  pub kept_at : is_kept_name (text (slice_index_or items index d)) ≡ true
  kept_at = ap (λ (name : List ℕ × Value). is_kept_name name.0) named_at ∙ tested (λ (name : List ℕ × Value). is_kept_name name.0) defined index no_name all_kept lt

-- a name with its value, whose text is another's
pub with_text : {row found : List ℕ × Value} {text other : List ℕ} {value : ℕ} → text ≡ other → row ≡ (text, Absolute value) → (other, Absolute value) ≡ found → row ≡ found
with_text {value = value} same is here = is ∙ (ap (λ text. (text, Absolute value)) same ∙ here)
