-- The first place of a list at which a test passes.
use Rattle.std.proofs.Common.{◌≡◌, ℕ, zero, suc, ◌+◌, Bool, true, false, cond, List, [], ◌∷◌, map, Option, Some, None}
use Rattle.std.proofs.Common.{refl, sym, ap, ◌∙◌}
use Rattle.std.specs.Prelude.{slice_get, position}
use Rattle.std.specs.List.{position_from}
use Rattle.std.proofs.lemmas.Iterator.Adapters.{position_from-zero}

module _ {X Y : Type 0} (p : Y → Bool) (f : X → Y) where
  from_mapped : (from : ℕ) (xs : List X) → position_from p from (map f xs) ≡ position_from (λ x. p (f x)) from xs
  from_mapped from [] = refl
  from_mapped from (x ∷ xs) = ap (λ o. cond (p (f x)) (Some from) o) (from_mapped (from + 1) xs)

  -- in a list of images
  pub position_mapped : (xs : List X) → position p (map f xs) ≡ position (λ x. p (f x)) xs
  position_mapped xs = position_from-zero p (map f xs) ∙ from_mapped 0 xs ∙ sym (position_from-zero (λ x. p (f x)) xs)

module _ {X : Type 0} (p : X → Bool) where
  -- the test passes nowhere
  abbrev pub Nowhere : List X → Type 0
  Nowhere [] = Unit {0}
  Nowhere (x ∷ xs) = (p x ≡ false) × Nowhere xs

  nowhere_from : (from : ℕ) (xs : List X) → position_from p from xs ≡ None → Nowhere xs
  nowhere_from from [] e = tt
  nowhere_from from (x ∷ xs) e = by (p x) refl e (nowhere_from (from + 1) xs)
    where
      by : (b : Bool) → p x ≡ b → cond b (Some from) (position_from p (from + 1) xs) ≡ None
          → (position_from p (from + 1) xs ≡ None → Nowhere xs) → (p x ≡ false) × Nowhere xs
      by true is e rest = absurd (cc)
      by false is e rest = (is, rest e)

  pub nowhere : (xs : List X) → position p xs ≡ None → Nowhere xs
  nowhere xs e = nowhere_from 0 xs (sym (position_from-zero p xs) ∙ e)

  pub fails_there : (xs : List X) (place : ℕ) (x : X) → Nowhere xs → slice_get xs place ≡ Some x → p x ≡ false
  fails_there [] place x none is = absurd (cc)
  fails_there (y ∷ xs) zero x none is = ap p (same is) ∙ none.0
    where
      same : ◌≡◌ {A = Option X} (Some y) (Some x) → x ≡ y
      same e = cc
  fails_there (y ∷ xs) (suc place) x none is = fails_there xs place x none.1 is
