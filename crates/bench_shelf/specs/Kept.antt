-- The lines that are kept for a listing.
use Rattle.std.specs.Prelude.{◌≡◌, ⊤, List, [], ◌∷◌, ◌++◌, ℕ, map, Option, Some, None, Result, Ok, Err}
use Rattle.std.proofs.Common.{Vec, Global}
use Rattle.expression_defs.specs.Symbols.{Names}
use Rattle.asm_defs.specs.declared.causes.AsmCause.{AsmCause}
use Rattle.asm_defs.specs.declared.location.Location.{Location}
use Rattle.asm_defs.specs.Statements.{Statement, parse_line}
use Rattle.asm_defs.specs.Locations.{Line}
use Rattle.asm_defs.specs.SecondChecks.{Nothing}
use Rattle.asm_core.specs.TakenLines.{names_in}
use Rattle.asm_core.specs.declared.taken.TakenLine.{TakenLine}
use Rattle.shelf_defs.specs.Copied.{PlacedLine}
use Rattle.asm_list_defs.specs.Listed as listed
use Rattle.bench_shelf.specs.declared.place.Place.{Place}
use Rattle.bench_shelf.specs.declared.kept_line.KeptLine.{KeptLine}
use Rattle.bench_shelf.specs.CopyAnswers.{model_of_place}

-- a kept line by its place and its text
abbrev pub model_of_kept : KeptLine → PlacedLine
model_of_kept kept = record { place = record { file = kept.file; line = kept.line }; text = kept.text.items }

-- what is shown of a kept line, which says something
abbrev pub shown_by : Option Names → Location → Option Location → Result Statement AsmCause → listed.Shown
shown_by known at origin (Ok statement) = listed.shown_at known at origin statement
shown_by known at origin (Err cause) = record { at = at; outcome = Nothing }

abbrev pub shown_of : Option Names → KeptLine → listed.Shown
shown_of known kept = shown_by known kept.taken.at kept.taken.origin (parse_line kept.text.items)

-- and the names that it defines
abbrev pub names_of : KeptLine → List (List ℕ)
names_of kept = names_in kept.taken

-- lines are kept with their places, and with what is listed of them
pub record AreKept (done : List PlacedLine) (lines : List Line) (kept : List KeptLine) : Type 0 where
  pub are : map model_of_kept kept ≡ done
  pub shown : (known : Option Names) → map (shown_of known) kept ≡ listed.shown known lines
  pub names : map names_of kept ≡ listed.defined lines

-- the same where lines are kept
abbrev pub IsKept : List PlacedLine → List Line → Option (Vec KeptLine Global) → Type 0
IsKept done lines None = ⊤
IsKept done lines (Some kept) = AreKept done lines kept.items

-- one line more is kept
pub record OneMore (old : List KeptLine) (place : Place) (own : TakenLine) (text : List ℕ) (new : List KeptLine)
    : Type 0 where
  pub line : KeptLine
  pub are : new ≡ old ++ line ∷ []
  pub is : model_of_kept line ≡ record { place = model_of_place place; text = text }
  pub taken : line.taken ≡ own

-- the same where lines are kept
abbrev pub KeepsLine : Option (Vec KeptLine Global) → Place → TakenLine → List ℕ → Option (Vec KeptLine Global) → Type 0
KeepsLine None place taken text None = ⊤
KeepsLine None place taken text (Some new) = ⊥
KeepsLine (Some old) place taken text None = ⊥
KeepsLine (Some old) place taken text (Some new) = OneMore old.items place taken text new.items
