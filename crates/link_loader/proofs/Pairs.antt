-- The pairs of a table, as the entries of a map.
use Rattle.std.proofs.Common.{◌≡◌, ℕ, zero, suc, ◌+◌, ◌<◌, Bool, true, false, cond, List, [], ◌∷◌, refl, ap, ◌∙◌, arith, Option, Some, None, T, length, get_or}
use Rattle.std.specs.Prelude.{◌==◌, nat_lt, ◌&&◌, IsSome}
use Rattle.std.specs.Ordering.{nat_cmp, is_lt}
use Rattle.std.specs.FinMap.{find, is_sorted}
use Rattle.std.specs.FinMap.Entries.{below_all}
use Rattle.std.proofs.lemmas.Bool.Decides.{nat_tests}
use Rattle.link_loader.specs.Tables.{word_in, pairs_from}
use Rattle.link_loader.proofs.Words.{ties}

both : (a b : Bool) → T a → T b → T (a && b)
both true b p q = q
both false b p q = p

less : (a b : ℕ) → a < b → T (is_lt (nat_cmp a b))
less a b lt = let e : nat_lt a b ≡ true = grind (arith, nat_tests) in rw e tt

-- pairs are at or above the first address
above : (low at : ℕ) (cells : List (Option ℕ)) → low < at → T (below_all nat_cmp low (pairs_from at cells))
above low at [] lt = tt
above low at (None ∷ cells) lt = above low (at + 1) cells (omega arith)
above low at (Some word ∷ cells) lt = both _ _ (less low at lt) (above low (at + 1) cells (omega arith))

pub pairs_sorted : (at : ℕ) (cells : List (Option ℕ)) → T (is_sorted nat_cmp (pairs_from at cells))
pairs_sorted at [] = tt
pairs_sorted at (None ∷ cells) = pairs_sorted (at + 1) cells
pairs_sorted at (Some word ∷ cells) = both _ _ (above at (at + 1) cells (omega arith)) (pairs_sorted (at + 1) cells)

none_below : (q at : ℕ) (cells : List (Option ℕ)) → q < at → find nat_cmp q (pairs_from at cells) ≡ None
none_below q at [] lt = refl
none_below q at (None ∷ cells) lt = none_below q (at + 1) cells (omega arith)
none_below q at (Some word ∷ cells) lt =
    let other : (q == at) ≡ false = grind (arith, nat_tests) in
    ap (λ b. cond b (Some word) (find nat_cmp q (pairs_from (at + 1) cells))) (ties q at ∙ other) ∙ none_below q (at + 1) cells (omega arith)

find_from : (at k : ℕ) (cells : List (Option ℕ)) → find nat_cmp (at + k) (pairs_from at cells) ≡ word_in cells k
find_from at k [] = refl
find_from at zero (None ∷ cells) = none_below (at + 0) (at + 1) cells (omega arith)
find_from at zero (Some word ∷ cells) =
    let same : (at + 0 == at) ≡ true = grind (arith, nat_tests) in
    ap (λ b. cond b (Some word) (find nat_cmp (at + 0) (pairs_from (at + 1) cells))) (ties (at + 0) at ∙ same)
find_from at (suc k) (None ∷ cells) =
    let there : at + suc k ≡ at + 1 + k = omega arith in
    ap (λ q. find nat_cmp q (pairs_from (at + 1) cells)) there ∙ find_from (at + 1) k cells
find_from at (suc k) (Some word ∷ cells) =
    let there : at + suc k ≡ at + 1 + k = omega arith in
    let other : (at + suc k == at) ≡ false = grind (arith, nat_tests) in
    ap (λ b. cond b (Some word) (find nat_cmp (at + suc k) (pairs_from (at + 1) cells))) (ties (at + suc k) at ∙ other)
    ∙ (ap (λ q. find nat_cmp q (pairs_from (at + 1) cells)) there ∙ find_from (at + 1) k cells)

-- what is found among the pairs is what the table has
pub find_pairs : (q : ℕ) (cells : List (Option ℕ)) → find nat_cmp q (pairs_from 0 cells) ≡ word_in cells q
find_pairs q cells = let e : 0 + q ≡ q = omega arith in rw e at (find_from 0 q cells)

-- the address of a pair has a word
pub pairs_have : (at k : ℕ) (cells : List (Option ℕ)) (d : ℕ × ℕ) → k < length (pairs_from at cells) → (j : ℕ) × ((get_or (pairs_from at cells) k d).0 ≡ at + j) × IsSome (word_in cells j)
pairs_have at k [] d lt = absurd (omega (arith, lt))
pairs_have at k (None ∷ cells) d lt =
    let there = pairs_have (at + 1) k cells d lt in
    (suc there.0, there.1 ∙ omega arith, there.2)
pairs_have at zero (Some word ∷ cells) d lt = (0, omega arith, refl)
pairs_have at (suc k) (Some word ∷ cells) d lt =
    let there = pairs_have (at + 1) k cells d (omega arith) in
    (suc there.0, there.1 ∙ omega arith, there.2)
