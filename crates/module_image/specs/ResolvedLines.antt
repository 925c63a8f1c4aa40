-- Lines that stand as they are after others, whatever names are still to come.
use Rattle.std.specs.Prelude.{◌≡◌, ⊤, ℕ, IsTrue, List, [], ◌∷◌, Ok}
use Rattle.asm_defs.specs.declared.location.Part.{Part}
use Rattle.asm_defs.specs.Memory.{AssembledLine, bytes_in, is_placed}
use Rattle.asm_defs.specs.Modules.{with_room}
use Rattle.asm_defs.specs.Growing.{is_resolved}

-- a line has room after others, and stands as it is
pub record IsResolvedAfter (earlier : List AssembledLine) (line : AssembledLine) : Type 0 where
  pub room : with_room earlier line ≡ Ok line
  pub is_resolved : IsTrue (is_resolved line.outcome)

-- and so does each of some lines in their order
abbrev pub AreAllResolved : List AssembledLine → List AssembledLine → Type 0
AreAllResolved earlier [] = ⊤
AreAllResolved earlier (line ∷ lines) = IsResolvedAfter earlier line × AreAllResolved (line ∷ earlier) lines

-- a line has as many bytes, at the same place, as another
pub record FillsPlace (held line : AssembledLine) : Type 0 where
  pub at : line.at ≡ held.at
  pub size : bytes_in line.outcome ≡ bytes_in held.outcome

-- lines that place bytes at the same places
abbrev pub SamePlaces : List AssembledLine → List AssembledLine → Type 0
SamePlaces first second = (part : Part) (p : ℕ) → is_placed first part p ≡ is_placed second part p
