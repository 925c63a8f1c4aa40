-- The uses of a name, place by place.
use Rattle.std.proofs.Common.{◌≡◌, ℕ, zero, suc, ◌+◌, ◌<◌, ◌≢◌, false, length, drop, get_or, List, [], ◌∷◌, ◌++◌, refl, sym, arith}
use Rattle.std.proofs.Common.{Some, None, Ok}
use Rattle.std.specs.Prelude.{◌==◌, if◌then◌else◌}
use Rattle.std.proofs.lemmas.List.{drop_more}
use Rattle.std.specs.Ordering.{nat_cmp}
use Rattle.std.specs.Cmp.{nat_cmp_total}
use Rattle.std.specs.FinMap.{find}
use Rattle.std.specs.FinMap.Entries.{find-append}
use Rattle.source_defs.specs.Refusals.{◌>>=◌}
use Rattle.link_defs.specs.Chains.{Uses, use_before, most_places, uses_from, uses_of}
use Rattle.link_loader.specs.declared.error.LinkError.{LinkError}
use Rattle.link_loader.specs.declared.table.Table.{Table}
use Rattle.link_loader.specs.Answers.{Refuses}
use Rattle.link_loader.specs.Holds.{cell, HoldsUses, value_or_0}
use Rattle.link_loader.proofs.Refusals.{refuses_first}
use Rattle.link_loader.proofs.Words.{pick, pick_option, ties}

-- one use more, at a place that has none
pub use_put : (defs : List (List ℕ × ℕ)) (name : List ℕ) (old new : Table) (uses : Uses) (place value : ℕ)
    → HoldsUses defs old uses → find nat_cmp place uses ≡ None → value ≡ value_or_0 defs name
    → ((q : ℕ) → cell new q ≡ (if q == place then Some value else cell old q))
    → HoldsUses defs new (uses ++ (place, name) ∷ [])
use_put defs name old new uses place value holds none is put at =
    rw (put at, holds at, is, find-append nat_cmp nat_cmp_total uses place name at none, ties at place) (pick (at == place) (λ e. rw e refl) (λ e. rw e refl))

-- a place that the chain goes on from is in none yet
pub not_used : (words : List (ℕ × ℕ)) (uses : Uses) (place next : ℕ) → use_before words uses place ≡ Ok next → find nat_cmp place uses ≡ None
not_used words uses place next e =
    pick_option (find nat_cmp place uses) (λ t. t)
    (λ name t. pick_option (find nat_cmp place words) (λ w. let h = rw w at e in absurd cc) (λ word w. let h = rw (w, t) at e in absurd cc))

module _ (words : List (ℕ × ℕ)) (name : List ℕ) (uses : Uses) where
  -- a chain that reaches 0 ends
  pub ends : (left : ℕ) → uses_from left words name uses 0 ≡ Ok uses
  unfolding uses_from
  ends zero = refl
  ends (suc left) = refl

  -- no chain has more places than there are
  pub ends_at_last : (left place : ℕ) → left ≡ 0 → uses_from left words name uses place ≡ Ok uses
  unfolding uses_from
  ends_at_last zero place e = refl
  ends_at_last (suc left) place e = absurd (omega arith)

  -- a chain that goes on at another place
  step : (left after place : ℕ) → left ≡ after + 1 → place ≢ 0
      → uses_from left words name uses place ≡ (use_before words uses place >>= λ next. uses_from after words name (uses ++ (place, name) ∷ []) next)
  unfolding uses_from
  step left after place more other = let is : left ≡ suc after = omega arith in let e : (place == 0) ≡ false = grind (arith, other) in rw (is, e) refl

  pub goes_on : (left after place next : ℕ) → left ≡ after + 1 → place ≢ 0 → use_before words uses place ≡ Ok next
      → uses_from left words name uses place ≡ uses_from after words name (uses ++ (place, name) ∷ []) next
  goes_on left after place next more other e = rw (step left after place more other, e) refl

  pub is_refused : (error : LinkError) (left after place : ℕ) → left ≡ after + 1 → place ≢ 0 → Refuses error (use_before words uses place)
      → Refuses error (uses_from left words name uses place)
  is_refused error left after place more other e = rw (step left after place more other) (refuses_first error _ _ e)

module _ (words : List (ℕ × ℕ)) (uses : Uses) (refs : List (List ℕ × ℕ)) (i : ℕ) (ref : List ℕ × ℕ) (lt : i < length refs) (is : ref ≡ get_or refs i ref) where
  next_ref : drop i refs ≡ ref ∷ drop (i + 1) refs
  next_ref = rw (sym is) at (drop_more refs i ref lt)

  -- a name whose chain is followed
  pub followed : (after : Uses) → uses_from most_places words ref.0 uses ref.1 ≡ Ok after → uses_of words uses (drop i refs) ≡ uses_of words after (drop (i + 1) refs)
  followed after e = rw (next_ref, e) refl

  -- a name whose chain is refused
  pub not_followed : (error : LinkError) → Refuses error (uses_from most_places words ref.0 uses ref.1) → Refuses error (uses_of words uses (drop i refs))
  not_followed error e = rw next_ref (refuses_first error _ _ e)
