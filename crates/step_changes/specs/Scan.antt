-- The changes of lists of bytes from a place on.
use Rattle.std.specs.Prelude.{◌≡◌, ◌≢◌, ℕ, ◌<◌, ◌≤◌, Bool, not, ◌&&◌, ◌==◌, List, [], length, drop, slice_index, Option}
use Rattle.std.specs.Prelude.{Some, None}
use Rattle.change_defs.specs.Changes.{Change, changes_from}

-- the changes from a place on
abbrev pub left_from : List ℕ → List ℕ → ℕ → List Change
left_from before after at = changes_from at (drop at before) (drop at after)

-- the byte now at a place, by the bytes that it had and has, is this one and was another
abbrev pub is_made : ℕ → ℕ × ℕ → Bool
is_made byte place = (place.1 == byte) && not (place.0 == byte)

-- the next change begins at a place
pub record IsNextChange (before after : List ℕ) (at from : ℕ) : Type 0 where
  pub from_on : at ≤ from
  pub within : from < length after
  pub skips : left_from before after at ≡ left_from before after from
  pub differs : slice_index before from ≢ slice_index after from

-- the place at which the next change begins, if there is one
abbrev pub IsNext : List ℕ → List ℕ → ℕ → Option ℕ → Type 0
IsNext before after at None = left_from before after at ≡ []
IsNext before after at (Some from) = IsNextChange before after at from
