-- What the code keeps of the bytes that lines place.
use Rattle.std.specs.Prelude.{◌≡◌, ℕ, Bool, IsTrue, false, List, ◌∷◌, Option, None, Result, if◌then◌else◌}
use Rattle.source_defs.specs.Refusals.{map_ok}
use Rattle.object_defs.specs.Modules.{Reference}
use Rattle.asm_defs.specs.declared.causes.AsmCause.{AsmCause}
use Rattle.asm_defs.specs.declared.content.Content.{Content}
use Rattle.asm_defs.specs.declared.location.Location.{Location}
use Rattle.asm_defs.specs.declared.location.Part.{Part}
use Rattle.asm_defs.specs.declared.location.Part.TheVariants as part
use Rattle.asm_defs.specs.Memory.{AssembledLine, contents, same_part, is_placed_in, any_from}
use Rattle.asm_defs.specs.Modules.{with_room}
use Rattle.module_image.specs.Tables.{cell, put_from, is_taken}
use Rattle.module_image.specs.Holding.{Holds}
use Rattle.module_image.specs.declared.image.Image.{Image}

-- no byte was put
pub record IsEmpty (image : Image) : Type 0 where
  pub relocatable : (p : ℕ) → cell image.relocatable.cells.items p ≡ None
  pub absolute : (p : ℕ) → cell image.absolute.cells.items p ≡ None

-- the lines' bytes, by the names of REF before their first use
pub record IsImage (references : List Reference) (lines : List AssembledLine) (image : Image) : Type 0 where
  pub relocatable : Holds references lines part.Relocatable image.relocatable
  pub absolute : Holds references lines part.Absolute image.absolute

-- the cells of a part after bytes that are put from a place on
abbrev pub put_in : Part → Location → List Content → List (Option Content) → List (Option Content)
put_in part at contents cells = if same_part at.part part then put_from cells at.number contents else cells

pub record IsPut (at : Location) (contents : List Content) (old new : Image) : Type 0 where
  pub relocatable : new.relocatable.cells.items ≡ put_in part.Relocatable at contents old.relocatable.cells.items
  pub absolute : new.absolute.cells.items ≡ put_in part.Absolute at contents old.absolute.cells.items

-- one of some bytes from a place on was put
abbrev pub any_in : Part → Image → ℕ → ℕ → Bool
any_in part.Relocatable image from count = any_from (is_taken image.relocatable.cells.items) from count
any_in part.Absolute image from count = any_from (is_taken image.absolute.cells.items) from count
any_in part.Dummy image from count = false

abbrev pub any_put : Image → Location → ℕ → Bool
any_put image at count = any_in at.part image at.number count

-- a line was placed after others, and whether it has room
pub record IsPlacedAfter {A : Type 0} (references : List Reference) (earlier : List AssembledLine)
    (line : AssembledLine)
    (result : Result A AsmCause) (new : Image) : Type 0 where
  pub room : map_ok (λ _. line) result ≡ with_room earlier line
  pub image : IsImage references (line ∷ earlier) new

-- so it is where its bytes were given
abbrev pub Places : {A : Type 0} → List Reference → List AssembledLine → AssembledLine → Location → List Content
    → Result A AsmCause → Image → Image → Type 0
Places references earlier line at given result old new =
    IsImage references earlier old → line.at ≡ at
    → (IsTrue (is_placed_in at.part) → given ≡ contents references earlier line)
    → IsPlacedAfter references earlier line result new
