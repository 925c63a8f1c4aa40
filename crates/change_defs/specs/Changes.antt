-- What differs between two lists of bytes of one length, and what a list becomes by it.
use Rattle.std.specs.Prelude.{◌≡◌, ℕ, ◌+◌, ◌==◌, ◌&&◌, if◌then◌else◌, List, [], ◌∷◌, ◌++◌, length, take, drop}
use Rattle.std.specs.Prelude.{replicate}

-- Neighbours that changed, and that are the same byte now: the place of the first, the byte, and how many they are.
pub record Change : Type 0 where
  pub at : ℕ
  pub byte : ℕ
  pub count : ℕ

-- A byte that changed, before the changes at higher places: it joins the first of them if that is the same byte, at the
-- next place.
abbrev pub joined : ℕ → ℕ → List Change → List Change
joined at byte [] = record { at = at; byte = byte; count = 1 } ∷ []
joined at byte (next ∷ rest) =
    if (next.at == at + 1) && (next.byte == byte) then record { at = at; byte = byte; count = next.count + 1 } ∷ rest
    else record { at = at; byte = byte; count = 1 } ∷ next ∷ rest

-- What changed from one list of bytes to another of the same length, in order of place; the first byte of each has this
-- place.
abbrev pub changes_from : ℕ → List ℕ → List ℕ → List Change
changes_from at (old ∷ before) (new ∷ after) =
    let rest = changes_from (at + 1) before after in if old == new then rest else joined at new rest
changes_from at before after = []

abbrev pub changes : List ℕ → List ℕ → List Change
changes before after = changes_from 0 before after

-- a list with a change made
abbrev pub changed : Change → List ℕ → List ℕ
changed c bytes = take c.at bytes ++ (replicate c.count c.byte ++ drop (c.at + c.count) bytes)

-- a list with changes made, one after the other
abbrev pub applied : List Change → List ℕ → List ℕ
applied [] bytes = bytes
applied (c ∷ cs) bytes = applied cs (changed c bytes)

-- The law, which is proved: the changes from a list to another of the same length, made in the first, give the other.
abbrev pub ChangesLead : Type 0
ChangesLead = (before after : List ℕ) → length before ≡ length after → applied (changes before after) before ≡ after
