-- What a builder adds of a line.
use Rattle.std.specs.Prelude.{◌≡◌, ℕ, ◌+◌, ◌++◌, List, ◌∷◌, Ok, IsSome}
use Rattle.asm_defs.specs.Locations.{Line, place, after}
use Rattle.asm_defs.specs.Statements.{parse_line}
use Rattle.asm_defs.specs.FirstChecks.{defs_in, refs_in}
use Rattle.asm_defs.specs.Memory.{AssembledLine}
use Rattle.asm_checks.specs.Defined.{model_of_statement}
use Rattle.asm_checks.specs.declared.first_checks.Checked.{Checked}
use Rattle.asm_core.specs.declared.lines.AsmLines.{AsmLines}
use Rattle.asm_core.specs.Keeping.{names_with, SameNames}
use Rattle.asm_core.specs.Building.{ImageOf, IsWorked}

-- a line is the next, after others
pub record IsNext (builder : AsmLines) (text : List ℕ) (checked : Checked) (lines : List Line)
    (line : Line) : Type 0 where
  pub at : after builder.location checked.moved.gap ≡ place lines line
  pub number : builder.taken + 1 ≡ line.number
  pub parsed : parse_line text ≡ Ok line.statement
  pub statement : model_of_statement checked.parsed.statement ≡ line.statement

abbrev pub WorksIn : List Line → AsmLines → Type 0
WorksIn lines builder = IsWorked lines builder.symbols builder.image builder.waiting.items builder.refused

-- its names are kept, and what is known of it is done
pub record Adds (old : AsmLines) (text : List ℕ) (checked : Checked) (new : AsmLines) : Type 0 where
  pub defs : new.defs.items ≡ old.defs.items ++ defs_in (model_of_statement checked.parsed.statement)
  pub refs : new.refs.items ≡ old.refs.items ++ refs_in (model_of_statement checked.parsed.statement)
  pub names : new.symbols ≡ names_with old.symbols checked
  pub worked : (lines : List Line) (line : Line) → IsNext old text checked lines line → WorksIn lines old
      → WorksIn (line ∷ lines) new

-- nothing is added
pub record IsAsBefore (old new : AsmLines) : Type 0 where
  pub names : SameNames old new
  pub worked : (lines : List Line) → WorksIn lines old → WorksIn lines new

-- a line that says nothing is counted, and the image is ready for the next
pub record Counts (old new : AsmLines) : Type 0 where
  pub taken : new.taken ≡ old.taken + 1
  pub names : SameNames old new
  pub location : new.location ≡ old.location
  pub reached : new.reached ≡ old.reached
  pub title : new.title ≡ old.title
  pub ended : new.ended ≡ old.ended
  pub waiting : new.waiting.items ≡ old.waiting.items
  pub refused : new.refused ≡ old.refused
  pub ready : IsSome new.image
  pub image : (founds : List AssembledLine) → ImageOf founds old.image → ImageOf founds new.image
