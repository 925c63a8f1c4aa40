-- The sum of a list of bytes, a chunk at a time, or byte by byte.
use Rattle.std.proofs.Common.{◌≡◌, ℕ, ◌+◌, ◌*◌, ◌≤◌, List, [], ◌∷◌, length, drop, get_or, replicate, Fits, w8, w32, T, refl, sym, ap, ◌∙◌, arith}
use Rattle.std.proofs.lemmas.Simd.{chunk-drop, length-chunk, sum_by-ones, sum_dots, sum_bound, bytes_below, sum_fits, fold-sum, chunk-fits, dot4_Fits}
use Rattle.std.proofs.lemmas.List.Sums.{sum_by-append, sum_by-cons}
use Rattle.std.specs.List.{sum}
use lib.Lanes.{chunk, sum_l, products, dots, pair_sums, all_below, fold_l, Steps}

sum_of_lanes : (xs : List ℕ) → sum_l xs ≡ sum xs
sum_of_lanes [] = refl
sum_of_lanes (x ∷ xs) = ap (λ s. x + s) (sum_of_lanes xs) ∙ sym (sum_by-cons (λ y. y) x xs)

-- the sum from a place on: that of the chunk there, and that of what is after it
pub chunk_and_rest : (xs : List ℕ) (i n : ℕ) → sum (drop i xs) ≡ sum (chunk i n xs) + sum (drop (i + n) xs)
chunk_and_rest xs i n = ap sum (chunk-drop i n xs) ∙ sum_by-append (λ x. x) (chunk i n xs) (drop (i + n) xs)

module _ (xs : List ℕ) (i : ℕ) (room : i + 64 ≤ length xs) (fits : (k : ℕ) → Fits w8 (get_or xs k 0)) where
  long : length (chunk i 64 xs) ≡ 64
  long = length-chunk i 64 xs room

  pub products_fit : T (all_below 32768 (pair_sums (products (chunk i 64 xs) (replicate 64 1))))
  products_fit = dot4_Fits (chunk i 64 xs) (replicate 64 1) (chunk-fits w8 i 64 xs fits) tt

  dots_sum : sum_l (dots (chunk i 64 xs) (replicate 64 1)) ≡ sum (chunk i 64 xs)
  dots_sum =
      (sum_dots 16 (chunk i 64 xs) (replicate 64 1) long refl).0
      ∙ ap (λ n. sum_l (products (chunk i 64 xs) (replicate n 1))) (sym long)
      ∙ sum_by-ones (chunk i 64 xs) ∙ sum_of_lanes (chunk i 64 xs)

  pub at_most : sum (chunk i 64 xs) ≤ 255 * 64
  at_most =
      let bound = sum_bound 255 (chunk i 64 xs) (bytes_below (chunk i 64 xs) (chunk-fits w8 i 64 xs fits)) in
      omega (arith, bound, long, sum_of_lanes (chunk i 64 xs))

  pub lanes_fit : Steps (λ s x. Fits w32 (s + x)) (λ s x. s + x) 0 (dots (chunk i 64 xs) (replicate 64 1))
  lanes_fit = sum_fits w32 0 (dots (chunk i 64 xs) (replicate 64 1)) (omega (arith, dots_sum, at_most))

  pub lanes_sum : fold_l (λ s x. s + x) 0 (dots (chunk i 64 xs) (replicate 64 1)) ≡ sum (chunk i 64 xs)
  lanes_sum = let folded = fold-sum 0 (dots (chunk i 64 xs) (replicate 64 1)) in omega (arith, folded, dots_sum)
