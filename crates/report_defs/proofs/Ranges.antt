-- What numbers in a row give, one after the other.
use Rattle.std.proofs.Common.{◌≡◌, ℕ, zero, suc, ◌+◌, ◌-◌, ◌≤◌, List, ◌∷◌, ◌++◌, map, ap, ◌∙◌, append-nil, zero-add, arith}
use Rattle.std.specs.List.{flat_map, range_with_len}
use Rattle.std.proofs.lemmas.Grind.{flat_map-append}
use Rattle.std.proofs.lemmas.List.{map-append}

range_split : (from n m : ℕ) → range_with_len from (n + m) ≡ range_with_len from n ++ range_with_len (from + n) m
range_split from zero m = ap (λ k. range_with_len from k) (zero-add m) ∙ ap (λ k. range_with_len k m) (omega arith)
range_split from (suc n) m =
    let e : suc n + m ≡ suc (n + m) = omega arith in
    let f : from + suc n ≡ from + 1 + n = omega arith in
    rw (e, f) (ap (λ ks. from ∷ ks) (range_split (from + 1) n m))

module _ {A : Type 0} (f : ℕ → List A) where
  -- those of some numbers, and then those of the numbers after them
  pub split_from : (from n m : ℕ) → flat_map f (range_with_len from (n + m)) ≡ flat_map f (range_with_len from n) ++ flat_map f (range_with_len (from + n) m)
  split_from from n m =
      ap (flat_map f) (range_split from n m) ∙ flat_map-append f (range_with_len from n) (range_with_len (from + n) m)

  -- those of one number more, from a number on
  pub more_from : (from n : ℕ) → flat_map f (range_with_len from (n + 1)) ≡ flat_map f (range_with_len from n) ++ f (from + n)
  more_from from n = split_from from n 1 ∙ ap (λ t. flat_map f (range_with_len from n) ++ t) (append-nil (f (from + n)))

  -- those of one number more, from 0 on
  pub more : (n : ℕ) → flat_map f (range_with_len 0 (n + 1)) ≡ flat_map f (range_with_len 0 n) ++ f n
  more n = more_from 0 n ∙ ap (λ k. flat_map f (range_with_len 0 n) ++ f k) (zero-add n)

  -- those of all numbers are those of the first, and then those of the others
  pub all_split : (n all : ℕ) → n ≤ all → flat_map f (range_with_len 0 all) ≡ flat_map f (range_with_len 0 n) ++ flat_map f (range_with_len n (all - n))
  all_split n all le =
      ap (λ k. flat_map f (range_with_len 0 k)) (let e : all ≡ n + (all - n) = omega arith in e)
      ∙ (split_from 0 n (all - n) ∙ ap (λ k. flat_map f (range_with_len 0 n) ++ flat_map f (range_with_len k (all - n))) (zero-add n))

module _ {B : Type 0} (f : ℕ → B) where
  -- the images of some numbers, and then those of the numbers after them
  pub mapped_split : (n m : ℕ) → map f (range_with_len 0 (n + m)) ≡ map f (range_with_len 0 n) ++ map f (range_with_len n m)
  mapped_split n m =
      ap (map f) (range_split 0 n m) ∙ map-append f (range_with_len 0 n) (range_with_len (0 + n) m)
      ∙ ap (λ k. map f (range_with_len 0 n) ++ map f (range_with_len k m)) (zero-add n)
