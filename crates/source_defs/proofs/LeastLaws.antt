-- The least place: one step, the end, and that it is the least.
use Rattle.std.proofs.Common.{◌≡◌, ℕ, zero, suc, ◌+◌, ◌-◌, ◌<◌, ◌≤◌, ◌⊎◌, inl, inr, Bool, true, false, cond, List, length, refl, ap, sym, ◌∙◌, arith}
use Rattle.std.proofs.lemmas.Bool.{cases_lt}
use Rattle.source_defs.specs.Least.{least, least_place, LeastPlacesAreLeast}

least_counted : (p : ℕ → Bool) (from n : ℕ) → n ≡ suc (n - 1) → least p from n ≡ cond (p from) from (least p (from + 1) (n - 1))
least_counted p from zero e = cc
least_counted p from (suc n) e = let m : suc n - 1 ≡ n = omega arith in rw m refl

pub least_place_step : (p : ℕ → Bool) (bytes : List ℕ) (from : ℕ) → from < length bytes → least_place p bytes from ≡ cond (p from) from (least_place p bytes (from + 1))
least_place_step p bytes from h =
    let e : length bytes - from - 1 ≡ length bytes - (from + 1) = omega arith in
    let s : length bytes - from ≡ suc (length bytes - from - 1) = omega arith in
    rw (← e) (least_counted p from (length bytes - from) s)

pub least_place_end : (p : ℕ → Bool) (bytes : List ℕ) (from : ℕ) → length bytes ≤ from → least_place p bytes from ≡ from
least_place_end p bytes from h = let e : length bytes - from ≡ 0 = omega arith in rw e refl

pub least-le : (p : ℕ → Bool) (from n : ℕ) → least p from n ≤ from + n
least-le p from zero = omega arith
least-le p from (suc n) = at_test (p from) from n _ (least-le p (from + 1) n)
  where
    at_test : (b : Bool) (from n k : ℕ) → k ≤ from + 1 + n → cond b from k ≤ from + suc n
    at_test true from n k h = omega arith
    at_test false from n k h = omega arith

pub least-ge : (p : ℕ → Bool) (from n : ℕ) → from ≤ least p from n
least-ge p from zero = omega arith
least-ge p from (suc n) = at_test (p from) from _ (least-ge p (from + 1) n)
  where
    at_test : (b : Bool) (from k : ℕ) → from + 1 ≤ k → from ≤ cond b from k
    at_test true from k h = omega arith
    at_test false from k h = omega arith

-- where the least place lies
pub least_place-le : (p : ℕ → Bool) (bytes : List ℕ) (from : ℕ) → from ≤ length bytes → least_place p bytes from ≤ length bytes
least_place-le p bytes from h = omega (arith, least-le p from (length bytes - from))

pub least_place-ge : (p : ℕ → Bool) (bytes : List ℕ) (from : ℕ) → from ≤ least_place p bytes from
least_place-ge p bytes from = least-ge p from (length bytes - from)

-- a number that is not below another is it, or is above it
le_cases : (a b : ℕ) → a ≤ b → (a ≡ b) ⊎ (a + 1 ≤ b)
le_cases a b h = by_order (cases_lt a b)
  where
    by_order : (a < b) ⊎ (b ≤ a) → (a ≡ b) ⊎ (a + 1 ≤ b)
    by_order (inl lt) = inr (omega arith)
    by_order (inr le) = inl (omega arith)

fails_before_test : (b : Bool) (p : ℕ → Bool) (from n k : ℕ) → p from ≡ b → from ≤ k → k < cond b from (least p (from + 1) n)
    → (from + 1 ≤ k → k < least p (from + 1) n → p k ≡ false) → p k ≡ false
fails_before_test true p from n k e ge lt later = absurd (omega arith)
fails_before_test false p from n k e ge lt later = by_place (le_cases from k ge)
  where
    by_place : (from ≡ k) ⊎ (from + 1 ≤ k) → p k ≡ false
    by_place (inl same) = ap p (sym same) ∙ e
    by_place (inr le) = later le lt

least_fails_before : (p : ℕ → Bool) (from n k : ℕ) → from ≤ k → k < least p from n → p k ≡ false
least_fails_before p from zero k ge lt = absurd (omega arith)
least_fails_before p from (suc n) k ge lt =
    fails_before_test (p from) p from n k refl ge lt (least_fails_before p (from + 1) n k)

passes_test : (b : Bool) (p : ℕ → Bool) (from n : ℕ) → p from ≡ b → cond b from (least p (from + 1) n) < from + suc n
    → (least p (from + 1) n < from + 1 + n → p (least p (from + 1) n) ≡ true) → p (cond b from (least p (from + 1) n)) ≡ true
passes_test true p from n e lt later = e
passes_test false p from n e lt later = later (omega arith)

least_passes : (p : ℕ → Bool) (from n : ℕ) → least p from n < from + n → p (least p from n) ≡ true
least_passes p from zero lt = absurd (omega arith)
least_passes p from (suc n) lt = passes_test (p from) p from n refl lt (least_passes p (from + 1) n)

pub least_places_are_least : LeastPlacesAreLeast
least_places_are_least p bytes from le = record {
  not_before_start = least_place-ge p bytes from;
  not_after_end = least_place-le p bytes from le;
  none_before = least_fails_before p from (length bytes - from);
  passes = λ lt. least_passes p from (length bytes - from) (omega arith);
}

pub ruleset leasts = (least_place_step, least_place_end)

pub ruleset least_bounds = (least_place-ge, least_place-le)
