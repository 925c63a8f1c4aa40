-- Pairs of a list whose first numbers rise, as the entries of a map.
use Rattle.std.proofs.Common.{◌≡◌, ℕ, Bool, true, false, cond, T, ◌⊎◌, inl, inr, List, [], ◌∷◌, refl, sym, ap, ◌∙◌}
use Rattle.std.proofs.Common.{Option, Some, None, Ordering, Less, is_eq, is_lt, nat_cmp, eqb-true}
use Rattle.std.specs.Prelude.{◌&&◌}
use Rattle.std.specs.Ordering.{eq_by_cmp}
use Rattle.std.specs.Cmp.{unsigned_tied, nat_cmp_total}
use Rattle.std.specs.FinMap.{find, is_sorted}
use Rattle.std.specs.FinMap.Entries.{below_all}
use Rattle.std.proofs.lemmas.Cmp.{tied_itself}

-- the parts of a test
first : (a b : Bool) → T (a && b) → T a
first true b p = tt
first false b p = p

second : (a b : Bool) → T (a && b) → T b
second true b p = p
second false b p = absurd p

-- a smaller number does not tie
skips : (order : Ordering) (here other : Option ℕ) → T (is_lt order) → cond (is_eq order) here other ≡ other
skips Less here other below = refl
skips _ here other below = absurd below

-- a number below all is not found
none_below : (at : ℕ) (pairs : List (ℕ × ℕ)) → T (below_all nat_cmp at pairs) → find nat_cmp at pairs ≡ None
none_below at [] below = refl
none_below at (pair ∷ pairs) below =
    skips (nat_cmp at pair.0) (Some pair.1) (find nat_cmp at pairs) (first _ _ below) ∙ none_below at pairs (second _ _ below)

-- the first pair is found
found_first : (pair : ℕ × ℕ) (pairs : List (ℕ × ℕ)) → find nat_cmp pair.0 (pair ∷ pairs) ≡ Some pair.1
found_first pair pairs =
    ap (λ order. cond (is_eq order) (Some pair.1) (find nat_cmp pair.0 pairs)) (tied_itself nat_cmp_total pair.0)

-- what is none is no word
pub none_is_not : (word : ℕ) (found : Option ℕ) → found ≡ None → found ≡ Some word → ⊥
none_is_not word found none some = cc

-- what is found after the first pair is found
found_later : (pair : ℕ × ℕ) (pairs : List (ℕ × ℕ)) (at word : ℕ) → T (below_all nat_cmp pair.0 pairs)
    → find nat_cmp at pairs ≡ Some word → find nat_cmp at (pair ∷ pairs) ≡ Some word
found_later pair pairs at word below found = by (eq_by_cmp nat_cmp at pair.0) refl
  where
    by : (tied : Bool) → eq_by_cmp nat_cmp at pair.0 ≡ tied → cond tied (Some pair.1) (find nat_cmp at pairs) ≡ Some word
    by true tied =
        let same : at ≡ pair.0 = eqb-true at pair.0 (sym (unsigned_tied at pair.0) ∙ tied) in
        let none : find nat_cmp at pairs ≡ None = ap (λ (key : ℕ). find nat_cmp key pairs) same ∙ none_below pair.0 pairs below in
        absurd (none_is_not word (find nat_cmp at pairs) none found)
    by false tied = found

-- a fact of each pair
abbrev pub Every : (ℕ × ℕ → Type 0) → List (ℕ × ℕ) → Type 0
Every Holds [] = Unit {0}
Every Holds (pair ∷ pairs) = Holds pair × Every Holds pairs

-- what is so of each pair that is found, is so of each
pub every_found : (Holds : ℕ × ℕ → Type 0) (pairs : List (ℕ × ℕ)) → T (is_sorted nat_cmp pairs)
    → ((pair : ℕ × ℕ) → find nat_cmp pair.0 pairs ≡ Some pair.1 → Holds pair) → Every Holds pairs
every_found Holds [] rises holds = tt
every_found Holds (pair ∷ pairs) rises holds =
    let below : T (below_all nat_cmp pair.0 pairs) = first _ _ rises in (
      holds pair (found_first pair pairs),
      every_found Holds pairs (second _ _ rises) (λ other found. holds other (found_later pair pairs other.0 other.1 below found)),
    )

-- a pair with a number is among them
abbrev pub Occurs : ℕ → List (ℕ × ℕ) → Type 0
Occurs at [] = ⊥
Occurs at (pair ∷ pairs) = (pair.0 ≡ at) ⊎ Occurs at pairs

-- a number that is found occurs
pub occurs : (at word : ℕ) (pairs : List (ℕ × ℕ)) → find nat_cmp at pairs ≡ Some word → Occurs at pairs
occurs at word [] found = none_is_not word None refl found
occurs at word (pair ∷ pairs) found = by (eq_by_cmp nat_cmp at pair.0) refl found (occurs at word pairs)
  where
    by : (tied : Bool) → eq_by_cmp nat_cmp at pair.0 ≡ tied → cond tied (Some pair.1) (find nat_cmp at pairs) ≡ Some word
        → (find nat_cmp at pairs ≡ Some word → Occurs at pairs) → (pair.0 ≡ at) ⊎ Occurs at pairs
    by true tied is later = inl (sym (eqb-true at pair.0 (sym (unsigned_tied at pair.0) ∙ tied)))
    by false tied is later = inr (later is)
