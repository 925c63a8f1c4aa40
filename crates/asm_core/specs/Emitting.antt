-- What a builder emits of a line.
use Rattle.std.specs.Prelude.{◌≡◌, ◌+◌, Bool, true, false, List, [], ◌∷◌, ◌++◌, Option, Some, None, Result, Ok, Err}
use Rattle.std.specs.Prelude.{IsTrue}
use Rattle.source_defs.specs.Refusals.{map_ok}
use Rattle.object_defs.specs.Modules.{Reference}
use Rattle.asm_defs.specs.declared.causes.AsmCause.{AsmCause}
use Rattle.asm_defs.specs.declared.content.Content.{Content}
use Rattle.asm_defs.specs.declared.location.Location.{Location}
use Rattle.asm_defs.specs.Memory.{AssembledLine, contents, is_placed_in}
use Rattle.asm_defs.specs.Modules.{with_room}
use Rattle.module_image.specs.declared.image.Image.{Image}
use Rattle.asm_core.specs.Keeping.{SameNames, KeepsRest}
use Rattle.asm_core.specs.Building.{ImageOf}
use Rattle.asm_core.specs.declared.lines.AsmLines.{AsmLines}
use Rattle.asm_core.specs.declared.first_pass.Emitted.{Emitted}
use Rattle.asm_core.specs.declared.first_pass.Emitted.TheVariants as emitted
use Rattle.asm_core.specs.declared.pending.Pending.{Pending}

-- all but the image, the lines that wait and the one that is refused are as before
pub record SameKnown (old new : AsmLines) : Type 0 where
  pub names : SameNames old new
  pub still : KeepsRest old new

-- and so are those lines
pub record SameLines (old new : AsmLines) : Type 0 where
  pub known : SameKnown old new
  pub waiting : new.waiting ≡ old.waiting
  pub refused : new.refused ≡ old.refused

-- the bytes that a line places after others at a place
abbrev pub AreContents : Location → List Content → List AssembledLine → AssembledLine → Type 0
AreContents at given earlier line =
    (line.at ≡ at) × ((references : List Reference) → IsTrue (is_placed_in at.part)
    → given ≡ contents references earlier line)

-- a line is placed after others, and whether it has room
pub record Places {A : Type 0} (earlier : List AssembledLine) (line : AssembledLine) (result : Result A AsmCause)
    (image : Option Image) : Type 0 where
  pub room : map_ok (λ _. line) result ≡ with_room earlier line
  pub placed : ImageOf (line ∷ earlier) image

-- the next line is refused; where it waits, it is the last that does
abbrev pub Stops : AsmLines → AsmCause → Bool → AsmLines → Type 0
Stops old cause false new =
    (new.refused ≡ Some (record { line = old.taken + 1; cause = cause; waiting = None }))
    × (new.waiting.items ≡ old.waiting.items)
Stops old cause true new =
    (front : List Pending) (last : Pending) → old.waiting.items ≡ front ++ last ∷ []
    → (new.refused ≡ Some (record { line = old.taken + 1; cause = cause; waiting = Some last }))
    × (new.waiting.items ≡ front)

-- a line was placed, or is refused since it has no room
abbrev pub ByRoom
    : AsmLines → List AssembledLine → AssembledLine → Bool → AsmLines → Result AssembledLine AsmCause → Type 0
ByRoom old earlier line waits new (Ok found) =
    (new.refused ≡ old.refused) × (new.waiting.items ≡ old.waiting.items) × ImageOf (line ∷ earlier) new.image
ByRoom old earlier line waits new (Err cause) = Stops old cause waits new

abbrev pub Emits : AsmLines → Location → Emitted → Bool → AsmLines → Type 0
Emits old at (emitted.Refused cause) waits new = Stops old cause false new
Emits old at (emitted.Bytes given) waits new =
    (earlier : List AssembledLine) (line : AssembledLine) → ImageOf earlier old.image
    → AreContents at given.items earlier line
    → ByRoom old earlier line waits new (with_room earlier line)
