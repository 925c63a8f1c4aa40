-- What is found is the first hit.
use Rattle.std.proofs.Common.{◌≡◌, ℕ, zero, suc, ◌+◌, ◌-◌, ◌<◌, ◌≤◌, ◌⊎◌, inl, inr, Bool, List, get_or}
use Rattle.std.proofs.Common.{Option, Some, None, refl, sym, ap, ◌∙◌, subst, arith}
use Rattle.std.specs.Prelude.{slice_get, option_map, option_and_then, unwrap_or}
use Rattle.std.specs.List.{filter_map, cons_option, range_with_len}
use Rattle.std.proofs.lemmas.Bool.{cases_lt}
use Rattle.std.proofs.lemmas.Option.{same_Some, get_or_from_slice_get, slice_get-get_or}
use Rattle.std.proofs.lemmas.List.Quantifiers.{position-Some}
use Rattle.gpl_step_defs.specs.State.{GplState}
use Rattle.gpl_step_defs.specs.Run.{run}
use Rattle.watch_defs.specs.declared.item.Item.{Item}
use Rattle.watch_defs.specs.declared.item.Item.TheVariants.{Pc}
use Rattle.watch_defs.specs.declared.found.Found.{Found}
use Rattle.watch_defs.specs.declared.found.Found.TheVariants as result
use Rattle.watch_defs.specs.Items.{holds, change}
use Rattle.watch_defs.specs.Hits.{state_after, first_item, change_at, hit_between, hit_at, hits}
use Rattle.watch_defs.specs.Laws.{NoneHolds, IsFound, HitsAreFirst}
use Rattle.watch_defs.proofs.Places.{nowhere, fails_there}

-- The first of what numbers in a row give.
abbrev First : {X : Type 0} → (ℕ → Option X) → ℕ → ℕ → Option X → Type 0
First f from count None = (k : ℕ) → from ≤ k → k < from + count → f k ≡ None
First f from count (Some x) =
    (k : ℕ) × (from ≤ k) × (k < from + count) × (f k ≡ Some x) × ((j : ℕ) → from ≤ j → j < k → f j ≡ None)

le_cases : (a b : ℕ) → a ≤ b → (a ≡ b) ⊎ (a + 1 ≤ b)
le_cases a b h = by_order (cases_lt a b)
  where
    by_order : (a < b) ⊎ (b ≤ a) → (a ≡ b) ⊎ (a + 1 ≤ b)
    by_order (inl lt) = inr (omega arith)
    by_order (inr le) = inl (omega arith)

module _ {X : Type 0} (f : ℕ → Option X) where
  -- where the first number gives nothing
  none_here : (from : ℕ) → f from ≡ None → (end : ℕ) → ((k : ℕ) → from + 1 ≤ k → k < end → f k ≡ None)
      → (k : ℕ) → from ≤ k → k < end → f k ≡ None
  none_here from here end later k ge lt = by (le_cases from k ge)
    where
      by : (from ≡ k) ⊎ (from + 1 ≤ k) → f k ≡ None
      by (inl same) = ap f (sym same) ∙ here
      by (inr le) = later k le lt

  first_later : (from count : ℕ) → f from ≡ None → (o : Option X) → First f (from + 1) count o
      → First f from (suc count) o
  first_later from count here None later =
      λ k ge lt. none_here from here (from + suc count) (λ j ge2 lt2. later j ge2 (omega arith)) k ge lt
  first_later from count here (Some x) later =
      let less = later.2 in (
        later.0,
        (let ge = later.1 in omega arith),
        omega arith,
        later.3,
        λ j ge lt. none_here from here later.0 later.4 j ge lt,
      )

  first_now : (from count : ℕ) (x : X) → f from ≡ Some x → First f from (suc count) (Some x)
  first_now from count x here = (from, omega arith, omega arith, here, λ j ge lt. absurd (omega arith))

  firsts : (from count : ℕ) → First f from count (slice_get (filter_map f (range_with_len from count)) 0)
  firsts from zero = λ k ge lt. absurd (omega arith)
  firsts from (suc count) = by (f from) refl (firsts (from + 1) count)
    where
      rest : List X
      rest = filter_map f (range_with_len (from + 1) count)

      of : Option X → Type 0
      of o = First f from (suc count) (slice_get (cons_option o rest) 0)

      by : (o : Option X) → f from ≡ o → First f (from + 1) count (slice_get rest 0) → of (f from)
      by None here later = subst of (sym here) (first_later from count here (slice_get rest 0) later)
      by (Some x) here later = subst of (sym here) (first_now from count x here)

module _ (list : List Item) (number : ℕ) (before next : GplState) where
  -- the hit of a step by the place of its item
  abbrev of_place : ℕ → Found
  of_place place = result.Hit number before.pc (place + 1) (change_at list place before next)

  nothing : (o : Option ℕ) → first_item list before next ≡ o → option_map of_place o ≡ None → NoneHolds list before next
  nothing None is none =
      λ place item at. fails_there (λ i. holds i before next) list place item
      (nowhere (λ i. holds i before next) list is) at
  nothing (Some place) is none = absurd (cc)

  none_holds : hit_between list number before next ≡ None → NoneHolds list before next
  none_holds none = nothing (first_item list before next) refl none

-- What is found by the first of the hits.
module _ (list : List Item) (limit : ℕ) (s : GplState) where
  none_at : (step : ℕ) → hit_at list s step ≡ None → NoneHolds list (state_after s (step - 1)) (state_after s step)
  none_at step none = none_holds list step (state_after s (step - 1)) (state_after s step) none

  module _ (step : ℕ) (some : 1 ≤ step) (within : step < 1 + (run limit s).done)
      (earlier : (j : ℕ) → 1 ≤ j → j < step → hit_at list s j ≡ None) where
    abbrev before : GplState
    before = state_after s (step - 1)

    abbrev next : GplState
    next = state_after s step

    abbrev hit_of : ℕ → Found
    hit_of place = of_place list step before next place

    first_of_step : (place : ℕ) → first_item list before next ≡ Some place → IsFound list limit s (hit_of place)
    first_of_step place is =
        let p : Item → Bool = λ item. holds item before next in
        let first = position-Some p list place (Pc 0) is in
        let item : Item = get_or list place (Pc 0) in
        let is_item : slice_get list place ≡ Some item = slice_get-get_or list place (Pc 0) first.0 in
        let less : place + 1 - 1 ≡ place = omega arith in
        record {
          counted = some;
          made = omega arith;
          first = λ j ge lt. none_at j (earlier j ge lt);
          begins = refl;
          numbered = omega arith;
          item = item;
          is_item = ap (slice_get list) less ∙ is_item;
          holds = first.1;
          none_before =
              λ k other lt at. ap p (sym (get_or_from_slice_get list k other (Pc 0) at)) ∙ first.2 k (omega arith);
          changed = ap (option_and_then (λ i. change i before next)) is_item;
        }

    by_item : (hit : Found) (o : Option ℕ) → first_item list before next ≡ o → option_map hit_of o ≡ Some hit
        → IsFound list limit s hit
    by_item hit None is e = absurd (cc)
    by_item hit (Some place) is e =
        subst (IsFound list limit s) (same_Some (hit_of place) hit e) (first_of_step place is)

  by_hit : (o : Option Found) → First (hit_at list s) 1 (run limit s).done o
      → IsFound list limit s (unwrap_or o result.None)
  by_hit None none = λ step ge le. none_at step (none step ge (omega arith))
  by_hit (Some hit) first =
      let step = first.0 in
      by_item step first.1 first.2 first.4 hit (first_item list (state_after s (step - 1)) (state_after s step)) refl first.3

pub hits_are_first : HitsAreFirst
hits_are_first list limit s =
    by_hit list limit s (slice_get (hits list s (run limit s).done) 0) (firsts (hit_at list s) 1 (run limit s).done)
