-- The least place with a property.
use Rattle.std.specs.Prelude.{ℕ, zero, suc, ◌+◌, ◌-◌, ◌<◌, ◌≤◌, Bool}
use Rattle.std.specs.Prelude.{not, if◌then◌else◌, List, length, IsTrue, IsFalse}
use Rattle.std.specs.Prelude.{slice_index}

-- the least of the `count` numbers from `from` on that passes, or the number after them
abbrev pub least : (ℕ → Bool) → ℕ → ℕ → ℕ
least p from zero = from
least p from (suc count) = if p from then from else least p (from + 1) count

-- the least place of a list from `from` on that passes, or the place after its end
abbrev pub least_place : (ℕ → Bool) → List ℕ → ℕ → ℕ
least_place p bytes from = least p from (length bytes - from)

-- from a place on, the first byte that is none of a kind, or the text's end
abbrev pub end_of : (ℕ → Bool) → List ℕ → ℕ → ℕ
end_of is text from = least_place (λ k. not (is (slice_index text k))) text from

-- what `least_place` says: no place before it passes, and it passes itself where it is in the list
pub record IsLeastPlace (p : ℕ → Bool) (bytes : List ℕ) (from place : ℕ) : Type 0 where
  pub not_before_start : from ≤ place
  pub not_after_end : place ≤ length bytes
  pub none_before : (k : ℕ) → from ≤ k → k < place → IsFalse (p k)
  pub passes : place < length bytes → IsTrue (p place)

-- the law, which is proved
abbrev pub LeastPlacesAreLeast : Type 0
LeastPlacesAreLeast =
    (p : ℕ → Bool) (bytes : List ℕ) (from : ℕ) → from ≤ length bytes →
    IsLeastPlace p bytes from (least_place p bytes from)
