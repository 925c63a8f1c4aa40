-- The blocks of the source, one after the other.
use Rattle.std.proofs.Common.{◌≡◌, ℕ, zero, suc, ◌+◌, ◌∷◌, ◌++◌, ap, ◌∙◌, append-nil, zero-add, add-one, arith}
use Rattle.std.specs.List.{flat_map, range_with_len}
use Rattle.std.proofs.lemmas.Grind.{flat_map-append}
use Rattle.report_defs.specs.DemoText.{next_number, number_of_block, block_at}

range_more : (from n : ℕ) → range_with_len from (n + 1) ≡ range_with_len from n ++ range_with_len (from + n) 1
range_more from zero = ap (λ k. range_with_len k 1) (omega arith)
range_more from (suc n) =
    let e : suc n + 1 ≡ suc (n + 1) = omega arith in
    let f : from + suc n ≡ from + 1 + n = omega arith in
    rw (e, f) (ap (λ ks. from ∷ ks) (range_more (from + 1) n))

-- the lines of one block more
pub more_blocks : (number n : ℕ) → flat_map (block_at number) (range_with_len 0 (n + 1)) ≡ flat_map (block_at number) (range_with_len 0 n) ++ block_at number n
more_blocks number n =
    let f = block_at number in
    let front = flat_map f (range_with_len 0 n) in
    ap (flat_map f) (range_more 0 n)
    ∙ flat_map-append f (range_with_len 0 n) (range_with_len (0 + n) 1)
    ∙ ap (λ t. front ++ t) (append-nil (f (0 + n)))
    ∙ ap (λ k. front ++ f k) (zero-add n)

-- the number after that of a block
pub number_after : (number n : ℕ) → number_of_block number (n + 1) ≡ next_number (number_of_block number n)
number_after number n = ap (number_of_block number) (add-one n)
