-- The hits of a run, one step after the other.
use Rattle.std.proofs.Common.{◌≡◌, ℕ, zero, suc, ◌+◌, ◌-◌, ◌≤◌, List, [], ◌∷◌, ◌++◌, Option, Some, None}
use Rattle.std.proofs.Common.{sym, ap, ap₂, ◌∙◌, zero-add, arith}
use Rattle.std.specs.Prelude.{slice_get, unwrap_or}
use Rattle.std.specs.List.{filter_map, cons_option, range_with_len}
use Rattle.std.proofs.lemmas.List.Elements.{filter_map-append}
use Rattle.gpl_step_defs.specs.State.{GplState}
use Rattle.gpl_step_defs.specs.Run.{run}
use Rattle.watch_defs.specs.declared.item.Item.{Item}
use Rattle.watch_defs.specs.declared.found.Found.{Found}
use Rattle.watch_defs.specs.declared.found.Found.TheVariants as result
use Rattle.watch_defs.specs.Hits.{state_after, hit_between, hit_at, hits, found}

range_split : (from n m : ℕ) → range_with_len from (n + m) ≡ range_with_len from n ++ range_with_len (from + n) m
range_split from zero m = ap (λ k. range_with_len from k) (zero-add m) ∙ ap (λ k. range_with_len k m) (omega arith)
range_split from (suc n) m =
    let e : suc n + m ≡ suc (n + m) = omega arith in
    let f : from + suc n ≡ from + 1 + n = omega arith in
    rw (e, f) (ap (λ ks. from ∷ ks) (range_split (from + 1) n m))

module _ (items : List Item) (s : GplState) where
  split : (n m : ℕ) → hits items s (n + m) ≡ hits items s n ++ filter_map (hit_at items s) (range_with_len (1 + n) m)
  split n m =
      ap (filter_map (hit_at items s)) (range_split 1 n m)
      ∙ filter_map-append (hit_at items s) (range_with_len 1 n) (range_with_len (1 + n) m)

  one : (n : ℕ) (o : Option Found) → hit_at items s (n + 1) ≡ o
      → filter_map (hit_at items s) (range_with_len (1 + n) 1) ≡ cons_option o []
  one n o e =
      let same : 1 + n ≡ n + 1 = omega arith in
      ap (λ k. cons_option (hit_at items s k) []) same ∙ ap (λ (p : Option Found). cons_option p []) e

  one_more : (made : ℕ) (o : Option Found) → hits items s made ≡ [] → hit_at items s (made + 1) ≡ o
      → hits items s (made + 1) ≡ cons_option o []
  one_more made o none here = split made 1 ∙ ap₂ (λ a b. a ++ b) none (one made o here)

  -- the hit of a step by the states before and after it
  pub hit_is : (made : ℕ) (before next : GplState) → before ≡ state_after s made → next ≡ state_after s (made + 1)
      → hit_at items s (made + 1) ≡ hit_between items (made + 1) before next
  hit_is made before next b n =
      let less : made + 1 - 1 ≡ made = omega arith in
      ap (λ k. hit_between items (made + 1) (state_after s k) (state_after s (made + 1))) less
      ∙ ap₂ (λ p q. hit_between items (made + 1) p q) (sym b) (sym n)

  -- one step more without a hit
  pub none_more : (made : ℕ) → hits items s made ≡ [] → hit_at items s (made + 1) ≡ None → hits items s (made + 1) ≡ []
  none_more made none here = one_more made None none here

  -- the first step with a hit
  pub first_found : (made limit : ℕ) (hit : Found) → hits items s made ≡ [] → hit_at items s (made + 1) ≡ Some hit
      → made + 1 ≤ (run limit s).done → found items limit s ≡ hit
  first_found made limit hit none here within =
      let done : ℕ = (run limit s).done in
      let left : ℕ = done - (made + 1) in
      let rest : List Found = filter_map (hit_at items s) (range_with_len (1 + (made + 1)) left) in
      let sum : done ≡ made + 1 + left = omega arith in
      let all : hits items s done ≡ hit ∷ rest =
      ap (λ k. hits items s k) sum ∙ split (made + 1) left ∙ ap (λ a. a ++ rest) (one_more made (Some hit) none here) in
      ap (λ (h : List Found). unwrap_or (slice_get h 0) result.None) all

  -- a run without a hit
  pub none_found : (made limit : ℕ) → hits items s made ≡ [] → made ≡ (run limit s).done
      → found items limit s ≡ result.None
  none_found made limit none is =
      ap (λ k. unwrap_or (slice_get (hits items s k) 0) result.None) (sym is)
      ∙ ap (λ (h : List Found). unwrap_or (slice_get h 0) result.None) none
