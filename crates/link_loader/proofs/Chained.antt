-- A chain has the places that are reached from its last use.
use Rattle.std.proofs.Common.{◌≡◌, ◌≢◌, ℕ, zero, suc, ◌+◌, ◌<◌, ◌≤◌, inl, inr, eqb, true, false, List, [], ◌∷◌, ◌++◌, length, map, refl, sym}
use Rattle.std.proofs.Common.{ap, ◌∙◌, append_assoc, append-nil, length-append, arith, Some, None, Err}
use Rattle.std.specs.Prelude.{◌==◌, is_some, IsSome}
use Rattle.std.proofs.lemmas.Bool.{cases_eq, or_parts, false_from_ne_true}
use Rattle.std.proofs.lemmas.List.{map-append, length-map}
use Rattle.std.specs.List.{list_any, AllByRecursion}
use Rattle.std.specs.Ordering.{nat_cmp, eq_by_cmp}
use Rattle.std.specs.Cmp.{nat_cmp_total, nat_eq_equiv}
use Rattle.std.specs.FinMap.{find}
use Rattle.std.specs.FinMap.Entries.{is_some-find, find-append}
use Rattle.std.proofs.lemmas.Map.Keys.{IsDistinct-push, IsDistinct-cons}
use Rattle.std.proofs.lemmas.Map.Steps.{length-le_from_distinct_below}
use Rattle.link_defs.specs.Causes.{ChainOutside, ChainCycle}
use Rattle.link_defs.specs.Chains.{Uses, most_places, uses_from}
use Rattle.link_defs.specs.Laws.{Leads, used, AreApart, ChainEnds, ChainsAreFollowed}
use Rattle.link_loader.proofs.Words.{pick, pick_option, ties, tied}
use Rattle.link_loader.proofs.Uses.{ends}

abbrev places_of : Uses → List ℕ
places_of uses = map (λ (one : ℕ × List ℕ). one.0) uses

-- a place is used where it is among the places
is_used : (at : ℕ) (uses : Uses) → is_some (find nat_cmp at uses) ≡ list_any (eqb at) (places_of uses)
is_used at uses = is_some-find nat_cmp at uses ∙ ap (λ test. list_any test (places_of uses)) (λ i x. ties at x i)

-- one step more of a chain
leads_more : (words : List (ℕ × ℕ)) (from : ℕ) (places : List ℕ) (place next : ℕ) → Leads words from places place → place ≢ 0 → find nat_cmp place words ≡ Some next → Leads words from (places ++ place ∷ []) next
leads_more words from [] place next is some found = (is, some, (next, found, refl))
leads_more words from (first ∷ places) place next (is, other, (second, there, rest)) some found =
    (is, other, (second, there, leads_more words second places place next rest some found))

used_more : (name places : List ℕ) (place : ℕ) (before : Uses) → (before ++ used name places) ++ (place, name) ∷ [] ≡ before ++ used name (places ++ place ∷ [])
used_more name places place before =
    append_assoc before (used name places) ((place, name) ∷ [])
    ∙ ap (λ uses. before ++ uses) (sym (map-append (λ (at : ℕ). (at, name)) places (place ∷ [])))

-- one use more, at a place that has none
apart_more : (uses : Uses) (place : ℕ) (name : List ℕ) → AreApart uses → place < most_places → place ≢ 0 → find nat_cmp place uses ≡ None → AreApart (uses ++ (place, name) ∷ [])
apart_more uses place name apart_so_far below some none = record {
  apart = rw (map-append (λ (one : ℕ × List ℕ). one.0) uses ((place, name) ∷ [])) (IsDistinct-push nat_eq_equiv (places_of uses) place apart_so_far.apart (rw none at (sym (is_used place uses))));
  places = λ at found. pick (eq_by_cmp nat_cmp at place) (λ e. rw (tied at place e) (below, some))
      (λ e. apart_so_far.places at (rw (find-append nat_cmp nat_cmp_total uses place name at none, e) at found));
}

none_zero : (places : List ℕ) → list_any (eqb 0) places ≡ false → AllByRecursion (λ (y : ℕ). eqb 0 y ≡ false) places
none_zero [] e = tt
none_zero (place ∷ places) e = let parts = or_parts _ _ e in (parts.0, none_zero places parts.1)

-- the uses are fewer than there are places
few : (uses : Uses) → AreApart uses → length uses + 1 ≤ most_places
few uses apart_so_far =
    let no_zero : list_any (eqb 0) (places_of uses) ≡ false = false_from_ne_true _ (λ used. (apart_so_far.places 0 (is_used 0 uses ∙ used)).1 refl) in
    let distinct = IsDistinct-cons eqb 0 (places_of uses) (none_zero (places_of uses) no_zero) apart_so_far.apart in
    let below : (q : ℕ) → list_any (eqb q) (0 ∷ places_of uses) ≡ true → q < most_places =
    λ q among. pick (eqb q 0) (λ is. let zero_place : q ≡ 0 = grind (arith, is) in omega (arith, zero_place)) (λ is. (apart_so_far.places q (is_used q uses ∙ rw is at among)).0) in
    omega (arith, length-le_from_distinct_below (0 ∷ places_of uses) most_places distinct below, length-map uses (λ (one : ℕ × List ℕ). one.0))

module _ (words : List (ℕ × ℕ)) (name : List ℕ) (uses : Uses) (left place : ℕ) (other : place ≢ 0) where
  nonzero : (place == 0) ≡ false
  nonzero = grind (arith, other)

  outside : find nat_cmp place words ≡ None → uses_from (suc left) words name uses place ≡ Err (ChainOutside place)
  unfolding uses_from
  outside none = rw (nonzero, none) refl

  cycle : (word : ℕ) (earlier : List ℕ) → find nat_cmp place words ≡ Some word → find nat_cmp place uses ≡ Some earlier → uses_from (suc left) words name uses place ≡ Err (ChainCycle place)
  unfolding uses_from
  cycle word earlier found taken = rw (nonzero, found, taken) refl

  next_use : (next : ℕ) → find nat_cmp place words ≡ Some next → find nat_cmp place uses ≡ None → uses_from (suc left) words name uses place ≡ uses_from left words name (uses ++ (place, name) ∷ []) next
  unfolding uses_from
  next_use next found none = rw (nonzero, found, none) refl

module _ (words : List (ℕ × ℕ)) (name : List ℕ) (before : Uses) (last : ℕ) (inside : (at : ℕ) → IsSome (find nat_cmp at words) → at < most_places) where
  abbrev uses_so : List ℕ → Uses
  uses_so places = before ++ used name places

  chain_goes : (left : ℕ) (places : List ℕ) (place : ℕ) → Leads words last places place → AreApart (uses_so places) → most_places ≤ length (uses_so places) + left
      → ChainEnds words name before last (uses_from left words name (uses_so places) place)
  chain_goes zero places place leads apart_so_far all = absurd (omega (arith, few (uses_so places) apart_so_far, all))
  chain_goes (suc left) places place leads apart_so_far all =
      elim (cases_eq place 0) [
        | inl is ↦ rw (is, ends words name (uses_so places) (suc left)) (places, rw is at leads, refl, apart_so_far)
        | inr other ↦ pick_option (find nat_cmp place words) (λ w. rw (outside words name (uses_so places) left place other w) (places, leads, other, w))
            (λ word w. pick_option (find nat_cmp place (uses_so places))
            (λ t. let more = used_more name places place before in
            let apart_next = rw more at (apart_more (uses_so places) place name apart_so_far (inside place (rw w refl)) other t) in
            rw (next_use words name (uses_so places) left place other word w t, more)
            (chain_goes left (places ++ place ∷ []) word (leads_more words last places place word leads other w) apart_next (rw (sym more) (omega (arith, all, length-append (uses_so places) ((place, name) ∷ []))))))
            (λ earlier t. rw (cycle words name (uses_so places) left place other word earlier w t) (places, leads, other, rw t refl)))
      ]

pub chains_are_followed : ChainsAreFollowed
chains_are_followed words name before last inside apart_so_far =
    rw (append-nil before) at (chain_goes words name before last inside most_places [] last refl (rw (append-nil before) apart_so_far) (omega arith))
