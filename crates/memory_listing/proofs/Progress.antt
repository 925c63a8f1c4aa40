-- Lines that are written one by one.
use Rattle.std.proofs.Common.{◌≡◌, ℕ, zero, suc, ◌+◌, List, [], ◌∷◌, drop, sym, ap, ◌∙◌, Some}
use Rattle.std.specs.Option.{unwrap_or}
use Rattle.std.specs.List.{slice_get}
use Rattle.std.proofs.Math.Numerals.{add-one}
pub use Rattle.bench_io.proofs.Progress.{Listed, listed_more, listed_missed, listed_same, listed_all}

-- an item of a list, and what comes after it
drop_item : {X : Type 0} (items : List X) (i : ℕ) (item : X) → slice_get items i ≡ Some item → drop i items ≡ item ∷ drop (suc i) items
drop_item [] i item e = absurd cc
drop_item (x ∷ xs) zero item e = ap (λ y. y ∷ xs) (ap (λ found. unwrap_or found item) e)
drop_item (x ∷ xs) (suc i) item e = drop_item xs i item e

pub drop_next : {X : Type 0} (items : List X) (i : ℕ) (item : X) → slice_get items i ≡ Some item → drop i items ≡ item ∷ drop (i + 1) items
drop_next items i item e = drop_item items i item e ∙ ap (λ k. item ∷ drop k items) (sym (add-one i))
