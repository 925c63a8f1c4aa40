-- How many digits numbers have.
use Rattle.std.proofs.Common.{◌≡◌, ℕ, ◌^◌, ◌<◌, ◌≤◌, List, length, sym, subst, arith}
use Rattle.std.specs.Fmt.{decimal}
use Rattle.std.proofs.lemmas.Fmt.{length-decimal-le}

pub ten_digits : (number : ℕ) (text : List ℕ) → number < 2 ^ 32 → text ≡ decimal number → length text ≤ 10
ten_digits number text h is = subst (λ (t : List ℕ). length t ≤ 10) (sym is) (length-decimal-le 10 number (omega arith) (omega arith) (omega arith))

pub twenty_digits : (number : ℕ) (text : List ℕ) → number < 2 ^ 64 → text ≡ decimal number → length text ≤ 20
twenty_digits number text h is = subst (λ (t : List ℕ). length t ≤ 20) (sym is) (length-decimal-le 20 number (omega arith) (omega arith) (omega arith))
