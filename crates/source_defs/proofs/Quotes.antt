-- How quotes open and close.
use Rattle.std.proofs.Common.{◌≡◌, ℕ, ◌+◌, ◌-◌, ◌%◌, ◌<◌, ◌≤◌, true, false, not, eqb, List, length, get_or, drop, refl, arith}
use Rattle.std.proofs.lemmas.Grind.{common_steps}
use Rattle.std.proofs.lemmas.List.Sums.{count_by_more_yes, count_by_more_no}
use Rattle.std.proofs.lemmas.Bool.Decides.{nat_tests}
use Rattle.source_defs.specs.Characters.{is_quote}
use Rattle.source_defs.specs.Fields.{in_quotes}

-- the parity after one more
parity : (n : ℕ) → eqb ((n + 1) % 2) 1 ≡ not (eqb (n % 2) 1)
parity n = grind (arith, nat_tests)

pub in_quotes_more_yes : (line : List ℕ) (start k : ℕ) → start ≤ k → k < length line → is_quote (get_or line k 0) ≡ true → in_quotes line start (k + 1) ≡ not (in_quotes line start k)
unfolding in_quotes
in_quotes_more_yes line start k le lt e =
    let n : k + 1 - start ≡ (k - start) + 1 = omega arith in
    let r : get_or (drop start line) (k - start) 0 ≡ get_or line k 0 = grind (arith, common_steps) in
    let l : k - start < length (drop start line) = grind (arith, common_steps) in
    rw (n, count_by_more_yes is_quote (drop start line) (k - start) 0 l (rw r e)) (parity _)

pub in_quotes_more_no : (line : List ℕ) (start k : ℕ) → start ≤ k → k < length line → is_quote (get_or line k 0) ≡ false → in_quotes line start (k + 1) ≡ in_quotes line start k
unfolding in_quotes
in_quotes_more_no line start k le lt e =
    let n : k + 1 - start ≡ (k - start) + 1 = omega arith in
    let r : get_or (drop start line) (k - start) 0 ≡ get_or line k 0 = grind (arith, common_steps) in
    let l : k - start < length (drop start line) = grind (arith, common_steps) in
    rw (n, count_by_more_no is_quote (drop start line) (k - start) 0 l (rw r e)) refl

pub in_quotes_none : (line : List ℕ) (start : ℕ) → in_quotes line start start ≡ false
unfolding in_quotes
in_quotes_none line start = let e : start - start ≡ 0 = omega arith in rw e refl

pub ruleset quoting = (in_quotes_more_yes, in_quotes_more_no, in_quotes_none)
