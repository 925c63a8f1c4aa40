-- The first item of a list, one by one.
use Rattle.std.proofs.Common.{◌≡◌, ℕ, ◌+◌, ◌<◌, Bool, false, length, take, drop, get_or, List, refl, sym, ◌∙◌, Some, None}
use Rattle.std.specs.Prelude.{if◌then◌else◌}
use Rattle.std.proofs.lemmas.List.{take_more, drop_more}
use Rattle.link_defs.specs.First.{first_after}
use Rattle.link_loader.proofs.Words.{pick}

module _ {X : Type 0} (test : List X → X → Bool) (items : List X) (i : ℕ) (d : X) (lt : i < length items) where
  -- one item more
  after_step : first_after test (take i items) (drop i items) ≡ (if test (take i items) (get_or items i d) then Some (get_or items i d) else first_after test (take (i + 1) items) (drop (i + 1) items))
  after_step = rw (drop_more items i d lt, take_more items i d lt) refl

  -- an item that the test does not pick
  pub passes : test (take i items) (get_or items i d) ≡ false → first_after test (take i items) (drop i items) ≡ first_after test (take (i + 1) items) (drop (i + 1) items)
  passes e = after_step ∙ rw e refl

  -- where none is picked, the test does not pick the item
  pub not_picked : first_after test (take i items) (drop i items) ≡ None → test (take i items) (get_or items i d) ≡ false
  not_picked none = pick (test (take i items) (get_or items i d)) (λ e. let some = rw e at (sym after_step ∙ none) in cc) (λ e. e)
