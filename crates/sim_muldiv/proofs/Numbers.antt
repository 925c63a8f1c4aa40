-- Facts about numbers that MUL and DIV need.
use Rattle.std.proofs.Common.{ℕ, ◌%◌, ◌&&◌, ◌*◌, ◌/◌, ◌<◌, ◌∙◌, ◌≡◌, ◌≤◌, ap, arith, Bool, lit<, nat_lt, refl, Some, suc, sym, true}
use Rattle.std.proofs.Common.{zero}
use Rattle.std.proofs.Math.Nat.{div-lt_iff_lt-mul, mul-div_cancel}
use Rattle.std.proofs.lemmas.Nat.{le-div}
use Rattle.std.proofs.lemmas.Bool.{and_parts, le-ltb, lt-ltb, ltb-true}
use Rattle.std.proofs.lemmas.Bool.Decides.{nat_tests}
use Rattle.sim_rows.proofs.Common.{Byte, division_of, double_word, has_quotient, high, join, low, modulus, shifted, SLA, SRL, sum_of, swapped, Width, Word}

-- a divisor is some number
pub some_divisor : (word : ℕ) → 256 ≤ word → word < 65536 → nat_lt 0 (shifted SRL word 8) ≡ true
some_divisor word l h = lt-ltb 0 (shifted SRL word 8) (omega arith)

-- the division of a register that is below the divisor
pub division_is : (more less divisor : ℕ) → nat_lt more divisor ≡ true →
    division_of more less divisor ≡ Some (double_word more less / divisor, double_word more less % divisor)
division_is more less divisor c = rw (c, division_of) refl

-- ---- whether a quotient fits

same_test : (a b c d : ℕ) → (a < b → c < d) → (b ≤ a → d ≤ c) → nat_lt a b ≡ nat_lt c d
same_test a b c d f g = grind (arith, nat_tests)

-- it does where the dividend is below the divisor of so much higher weight
fits_below : (weight dividend divisor : ℕ) → nat_lt dividend (weight * divisor) ≡ (nat_lt 0 divisor && nat_lt (dividend / divisor) weight)
fits_below weight dividend zero = le-ltb dividend (weight * 0) (omega arith)
fits_below weight dividend (suc less) =
    let some : 0 < suc less = omega arith in
    same_test dividend (weight * suc less) (dividend / suc less) weight (λ h. (div-lt_iff_lt-mul some).1 h) (λ h. le-div weight dividend (suc less) some h)
    ∙ ap (λ (b : Bool). b && nat_lt (dividend / suc less) weight) (sym (lt-ltb 0 (suc less) some))

pub byte_divides : (dividend divisor : ℕ) → nat_lt dividend (join divisor 0) ≡ has_quotient Byte dividend divisor
byte_divides dividend divisor = ap (nat_lt dividend) (omega arith) ∙ fits_below 256 dividend divisor

pub word_divides : (more less divisor : ℕ) → less < 65536 → nat_lt more divisor ≡ has_quotient Word (double_word more less) divisor
word_divides more less divisor h =
    same_test more divisor (double_word more less) (65536 * divisor) (λ a. omega arith) (λ a. omega arith) ∙ fits_below 65536 (double_word more less) divisor

-- where it does, the divisor is some number, the remainder is below it, and the quotient has its width
pub quotient_fits : (width : Width) (dividend divisor : ℕ) → has_quotient width dividend divisor ≡ true → (0 < divisor) × (dividend / divisor < modulus width)
quotient_fits width dividend divisor e =
    let b = and_parts (nat_lt 0 divisor) (nat_lt (dividend / divisor) (modulus width)) e in
    (ltb-true 0 divisor b.0, ltb-true (dividend / divisor) (modulus width) b.1)

-- ---- bytes

pub divisor_down : (divisor : ℕ) → divisor < 256 → shifted SRL (join divisor 0) 8 ≡ divisor
divisor_down divisor h = omega arith

pub byte_fits : (number : ℕ) → join number 0 < 65536 → number < 256
byte_fits number h = omega arith

pub no_first_word : (number : ℕ) → double_word 0 number ≡ number
no_first_word number = omega arith

pub together : (quotient remainder : ℕ) → quotient < 256 → remainder < 256 → sum_of Word (swapped quotient) remainder ≡ join quotient remainder
together quotient remainder h k = omega arith

pub high_of : (more less : ℕ) → less < 256 → high (join more less) ≡ more
high_of more less h = omega arith

pub low_of : (more less : ℕ) → less < 256 → low (join more less) ≡ less
low_of more less h = omega arith

cut_is : (word : ℕ) → word < 65536 → shifted SLA (shifted SRL word 8) 8 ≡ 256 * high word
cut_is word h = omega arith

pub byte_product : (word factor : ℕ) → word < 65536 → shifted SLA (shifted SRL word 8) 8 * join factor 0 / 65536 ≡ high word * factor
byte_product word factor h =
    let weight : 256 * high word * join factor 0 ≡ high word * factor * 65536 = omega arith in
    ap (λ (n : ℕ). n * join factor 0 / 65536) (cut_is word h) ∙ ap (λ (n : ℕ). n / 65536) weight ∙ mul-div_cancel (high word * factor) (lit< tt)
