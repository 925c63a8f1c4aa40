-- The first difference is the first.
use Rattle.std.proofs.Common.{◌≡◌, ◌≢◌, ◌⊎◌, inl, inr, ℕ, suc, ◌+◌, ◌<◌, ◌≤◌, Bool, true, false, cond, nat_eq, ◌&&◌, Some, None, List, [], ◌∷◌, length, get_or}
use Rattle.std.proofs.Common.{refl, sym, ap, ap₂, ◌∙◌, arith}
use Rattle.std.specs.Prelude.{if◌then◌else◌, IfSome}
use Rattle.std.specs.List.{zip, slice_get}
use Rattle.std.proofs.lemmas.Bool.{cases_lt}
use Rattle.std.proofs.lemmas.Bool.Decides.{nat_tests}
use Rattle.std.proofs.lemmas.List.Sums.{prefix_len-le-length, prefix_len_passes, prefix_len_stops}
use Rattle.std.proofs.lemmas.Option.{slice_get_past, slice_get-get_or}
use Rattle.std.proofs.lemmas.Slice.Zip.{get_or-zip, length-zip}
use Rattle.base_defs.specs.Lists.{is_same, common_length, first_difference, IsFirstDifference}

same_byte : (x y : ℕ) → nat_eq x y ≡ true → x ≡ y
same_byte x y e = grind (arith, nat_tests)

other_byte : (x y : ℕ) → nat_eq x y ≡ false → x ≢ y
other_byte x y e = λ f. grind (arith, nat_tests)

-- lists that have all their places in common are equal
equal : (a b : List ℕ) → common_length a b ≡ length a → common_length a b ≡ length b → a ≡ b
equal [] [] p q = refl
equal (x ∷ a) (y ∷ b) p q = by (nat_eq x y) refl p q (equal a b)
  where
    by : (same : Bool) → nat_eq x y ≡ same → cond same (1 + common_length a b) 0 ≡ suc (length a) → cond same (1 + common_length a b) 0 ≡ suc (length b) → (common_length a b ≡ length a → common_length a b ≡ length b → a ≡ b) → x ∷ a ≡ y ∷ b
    by true e p q rest = ap₂ (λ h t. h ∷ t) (same_byte x y e) (rest (omega arith) (omega arith))
    by false e p q rest = let no : ⊥ = omega arith in absurd no
equal _ _ p q = let no : ⊥ = omega arith in absurd no

module _ (a b : List ℕ) where
  abbrev common : ℕ
  common = common_length a b

  bound : (common ≤ length a) × (common ≤ length b)
  bound = (omega (arith, prefix_len-le-length is_same (zip a b), length-zip a b), omega (arith, prefix_len-le-length is_same (zip a b), length-zip a b))

  -- before the common end both lists show the same
  shared : (k : ℕ) → k < common → slice_get a k ≡ slice_get b k
  shared k lt =
      let in_a : k < length a = omega (arith, bound.0) in
      let in_b : k < length b = omega (arith, bound.1) in
      let same = ap is_same (sym (get_or-zip a b k (0, 0) in_a in_b)) ∙ prefix_len_passes is_same (zip a b) k (0, 0) lt in
      slice_get-get_or a k 0 in_a ∙ ap Some (same_byte (get_or a k 0) (get_or b k 0) same) ∙ sym (slice_get-get_or b k 0 in_b)

  -- there they do not, unless both end
  apart : (common < length a) ⊎ (common < length b) → slice_get a common ≢ slice_get b common
  apart goes_on = elim (cases_lt common (length a)) [
    | inl in_a ↦ elim (cases_lt common (length b)) [
      | inl in_b ↦
          let other = ap is_same (sym (get_or-zip a b common (0, 0) in_a in_b)) ∙ prefix_len_stops is_same (zip a b) (0, 0) (omega (arith, length-zip a b)) in
          λ e. other_byte (get_or a common 0) (get_or b common 0) other (let f = sym (slice_get-get_or a common 0 in_a) ∙ e ∙ slice_get-get_or b common 0 in_b in cc)
      | inr past ↦ λ e. let f = sym (slice_get-get_or a common 0 in_a) ∙ e ∙ slice_get_past b common past in absurd (cc)
    ]
    | inr past ↦ elim (cases_lt common (length b)) [
      | inl in_b ↦ λ e. let f = sym (slice_get_past a common past) ∙ e ∙ slice_get-get_or b common 0 in_b in absurd (cc)
      | inr past_b ↦ elim goes_on [ inl lt ↦ absurd (omega arith) | inr lt ↦ absurd (omega arith) ]
    ]
  ]

  by : (ends : Bool) → (nat_eq common (length a) && nat_eq common (length b)) ≡ ends → IsFirstDifference a b (if ends then None else Some common)
  by true e = equal a b (grind (arith, nat_tests)) (grind (arith, nat_tests))
  by false e = (apart (some_end (nat_eq common (length a)) refl), shared)
    where
      some_end : (ends : Bool) → nat_eq common (length a) ≡ ends → (common < length a) ⊎ (common < length b)
      some_end true f = inr (grind (arith, nat_tests, bound.1))
      some_end false f = inl (grind (arith, nat_tests, bound.0))

  pub first_is : IsFirstDifference a b (first_difference a b)
  first_is = by (nat_eq common (length a) && nat_eq common (length b)) refl

  by_length : (ends : Bool) → (nat_eq common (length a) && nat_eq common (length b)) ≡ ends → length a ≡ length b →
      IfSome (if ends then None else Some common) (λ at. at < length a)
  by_length true e same = tt
  by_length false e same = grind (arith, nat_tests, bound.0)

  -- in lists of one length it is a place of both
  pub first_within : length a ≡ length b → IfSome (first_difference a b) (λ at. at < length a)
  first_within same = by_length (nat_eq common (length a) && nat_eq common (length b)) refl same
