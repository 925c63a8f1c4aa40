-- How much is taken of the files that are asked for.
use Rattle.std.proofs.Common.{◌≡◌, ◌≤◌, ℕ, ◌+◌, ◌-◌, ◌*◌, List, [], ◌∷◌, ◌++◌, length, subst, arith, mul-suc, mul-le-mul_left}
use Rattle.base_defs.specs.Counts.{saturating_sum}
use Rattle.shelf_defs.specs.Questions.{FileAnswer, Bytes, Question}
use Rattle.shelf_defs.specs.Amounts.{IsTaken, AreTaken}
use Rattle.bench_shelf.specs.States.{ShelfState}
use Rattle.bench_shelf.specs.Dialogue.{Dialogue}

-- what is taken of some files and of others
pub taken_then : (limit : ℕ) (xs ys : List Question) (a b c d : ℕ) → AreTaken limit xs a b → AreTaken limit ys c d → AreTaken limit (xs ++ ys) (a + c) (b + d)
taken_then limit [] ys a b c d first others =
    let bytes : c ≡ a + c = omega (arith, first.0) in
    let empty : d ≡ b + d = omega (arith, first.1) in
    subst (λ n. AreTaken limit ys n (b + d)) bytes (subst (AreTaken limit ys c) empty others)
taken_then limit (x ∷ xs) ys a b c d (n, m, one, few, less, rest) others =
    let bytes : a - n + c ≡ a + c - n = omega (arith, few) in
    let empty : b - m + d ≡ b + d - m = omega (arith, less) in (
      n,
      m,
      one,
      omega (arith, few),
      omega (arith, less),
      subst (λ k. AreTaken limit (xs ++ ys) k (b + d - m)) bytes (subst (AreTaken limit (xs ++ ys) (a - n + c)) empty (taken_then limit xs ys (a - n) (b - m) c d rest others)),
    )

-- of one file no more is taken than one byte past the limit
one_most : (limit : ℕ) (answer : FileAnswer) (bytes empty : ℕ) → IsTaken limit answer bytes empty → bytes ≤ limit + 1
one_most limit (Bytes all) bytes empty taken = omega (arith, taken.1)
one_most limit _ bytes empty taken = omega (arith, taken.0)

taken_most : (limit : ℕ) (questions : List Question) (bytes empty : ℕ) → AreTaken limit questions bytes empty → bytes ≤ (limit + 1) * length questions
taken_most limit [] bytes empty taken = omega (arith, taken.0)
taken_most limit (x ∷ xs) bytes empty (n, m, one, few, less, rest) =
    let first = one_most limit x.answer n m one in
    let others = taken_most limit xs (bytes - n) (empty - m) rest in
    omega (arith, mul-suc (limit + 1) (length xs), first, few, others)

-- what is taken of a shelf at most
pub dialogue_takes : (limit most : ℕ) (IsNext : List Question → Question → Type 0) (before after : ShelfState) (questions : List Question)
    → Dialogue limit most IsNext before after questions
    → (after.opens ≤ saturating_sum before.opens most) × (after.source.taken ≤ saturating_sum before.source.taken ((limit + 1) * most))
dialogue_takes limit most IsNext before after questions dialogue =
    let reads = dialogue.reads in
    let all = taken_most limit questions reads.bytes reads.empty reads.amounts in
    let few = mul-le-mul_left (limit + 1) dialogue.few in
    (omega (arith, reads.opens, dialogue.few), omega (arith, reads.taken, all, few))
