-- Facts about numbers that RAND needs.
use Rattle.std.proofs.Common.{ℕ, ◌%◌, ◌+◌, ◌/◌, ◌<◌, ◌≡◌, ap, arith, nat_lt, Option, Some, true}
use Rattle.std.proofs.Math.Nat.{mod-lt}
use Rattle.std.proofs.lemmas.Bool.{lt-ltb}
use Rattle.sim_rows.proofs.Common.{division_of, double_word, high, join, low, next_seed, product_of, sum_of, swapped, Word}

-- a word of two bytes, the second of them read first and moved down
pub read_word : (first second less : ℕ) → second < 256 → less < 256 → join first (low (swapped (join second less))) ≡ join first second
read_word first second less h k = omega arith

pub less_fits : (n : ℕ) → low n < 256
less_fits n = omega arith

pub sum_fits : (a b : ℕ) → sum_of Word a b < 65536
sum_fits a b = omega arith

pub seed_is : (seed : ℕ) → sum_of Word (product_of 0x6FE5 seed).1 0x7AB9 ≡ next_seed seed
seed_is seed = omega arith

-- the number above the limit
pub above_is : (limit : ℕ) → limit < 256 → sum_of Word limit 1 ≡ limit + 1
above_is limit h = omega arith

some_divisor : (limit : ℕ) → nat_lt 0 (limit + 1) ≡ true
some_divisor limit = lt-ltb 0 (limit + 1) (omega arith)

-- the division of one word by it
pub division_is : (number limit : ℕ) → division_of 0 number (limit + 1) ≡ Some (number / (limit + 1), number % (limit + 1))
division_is number limit =
    let one : double_word 0 number ≡ number = omega arith in
    let pair : ℕ → Option (ℕ × ℕ) = λ n. Some (n / (limit + 1), n % (limit + 1)) in
    rw (some_divisor limit, division_of) (ap pair one)

-- what is drawn is a byte, which is in the low half of a register
pub drawn_byte : (number limit : ℕ) → limit < 256 → high (swapped (number % (limit + 1))) ≡ number % (limit + 1)
drawn_byte number limit h = let below = mod-lt number (some limit) in omega arith
  where
    some : (n : ℕ) → 0 < n + 1
    some n = omega arith
