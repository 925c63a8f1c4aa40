-- What is returned of a line.
use Rattle.std.specs.Prelude.{◌≡◌, ℕ, List, ◌++◌, map, Ok}
use Rattle.asm_defs.specs.Statements.{parse_line}
use Rattle.asm_defs.specs.Locations.{Line, place}
use Rattle.asm_defs.specs.FirstChecks.{label_in}
use Rattle.asm_core.specs.declared.taken.TakenLine.{TakenLine}

-- the names that a line defines: its label, and the names of REF
abbrev pub names_in : TakenLine → List (List ℕ)
names_in known = label_in known.label ++ known.refs.items

-- what is returned of a line that was taken after others
pub record DescribesLine (before : List Line) (text : List ℕ) (line : Line) (known : TakenLine) : Type 0 where
  pub at : known.at ≡ place before line
  pub origin : known.origin ≡ line.origin
  pub names : map (λ entry. entry.0) line.names ≡ names_in known
  pub parsed : parse_line text ≡ Ok line.statement
