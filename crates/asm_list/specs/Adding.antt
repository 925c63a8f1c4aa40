-- The rows of kept lines, as they are added to others.
use Rattle.std.specs.Prelude.{◌≡◌, ℕ, ◌-◌, List, ◌++◌, length, map, take, Option, Some, None}
use Rattle.std.specs.List.{flat_map}
use Rattle.std.specs.Option.{option_map}
use Rattle.std.proofs.Common.{Vec, Global}
use Rattle.expression_defs.specs.Symbols.{Names, look_up}
use Rattle.asm_defs.specs.declared.location.Location.{Location}
use Rattle.asm_defs.specs.Statements.{Statement}
use Rattle.asm_defs.specs.SecondChecks.{Outcome, outcome}
use Rattle.asm_list_defs.specs.Listed as listed
use Rattle.asm_list_defs.specs.Listed.{ListedName, found_or, names_of_line}
use Rattle.asm_list_defs.specs.Rows.{outcome_text, lines_rows, rows_below, name_row}
use Rattle.bench_shelf.specs.Kept.{model_of_kept}
use Rattle.bench_shelf.specs.Listed.{listed_line, named_line}
use Rattle.bench_shelf.specs.declared.kept_line.KeptLine.{KeptLine}
use Rattle.bench_shelf.specs.declared.listed.ListedEnding.{ListedEnding}
use Rattle.bench_shelf.specs.declared.listed.ListedEnding.TheVariants.{Whole, After, Before}
use Rattle.asm_list.specs.declared.shown.Lister.{Lister}
use Rattle.asm_list.specs.declared.shown.Shown.{Shown}

-- texts as lists of their bytes
abbrev pub texts_in : List (Vec ℕ Global) → List (List ℕ)
texts_in texts = map (λ text. text.items) texts

-- what each name stands for, where all names are known
abbrev pub known_to : Lister → Option Names
known_to lister = option_map (λ names. names.now) lister.names

-- what is shown of a line: its place, and the text of what it places
pub record Shows (shown : Shown) (defined : listed.Shown) : Type 0 where
  pub at : shown.at ≡ defined.at
  pub placed : shown.placed.items ≡ outcome_text defined.outcome

-- the rows of kept lines, by all names where these are known
abbrev pub rows_by_names : Option Names → List KeptLine → List (List ℕ)
rows_by_names known lines = lines_rows None (map (listed_line known) lines)

abbrev pub named_rows : Names → KeptLine → List (List ℕ) → List ListedName
named_rows known kept names = names_of_line known (model_of_kept kept, names)

abbrev pub rows_of_names : Names → List KeptLine → List (List ℕ)
rows_of_names known lines = map name_row (flat_map (names_of_line known) (map named_line lines))

-- all rows, by what comes after the kept lines
abbrev pub all_rows : List KeptLine → ListedEnding → List (List ℕ)
all_rows lines (Whole known) = rows_by_names (Some known) lines ++ rows_of_names known lines
all_rows lines (After known number error) = rows_by_names (Some known) (take (number - 1) lines)
all_rows lines (Before error) = rows_by_names None lines

-- what a line places by all names, at its place
abbrev pub found_in : Names → Location → Statement → Outcome
found_in known at statement = found_or at (outcome (look_up known) at statement)

-- the rows below a line
abbrev pub below : Location → List ℕ → List (List ℕ)
below at text = rows_below (length text) at text
