-- There is a quotient exactly where the divisor is above the high word.
use Rattle.std.proofs.Common.{◌≡◌, ℕ, ◌/◌, ◌<◌, ◌≤◌, Bool, true, false, refl, sym, ap, arith, ◌∙◌, Some, None}
use Rattle.std.specs.Prelude.{nat_lt, is_some, ◌&&◌, if◌then◌else◌}
use Rattle.std.proofs.Math.Nat.{div-lt_iff_lt-mul}
use Rattle.std.proofs.lemmas.Nat.{le-div}
use Rattle.std.proofs.lemmas.Bool.Decides.{nat_tests}
use Rattle.tms_defs.specs.MultiplyDivide.{double_word, division_of, has_quotient}

quotient-word : (more less divisor : ℕ) → less < 65536 → more < divisor → double_word more less / divisor < 65536
quotient-word more less divisor lt above = (div-lt_iff_lt-mul (omega arith)).1 (omega arith)

quotient-no_word : (more less divisor : ℕ) → 0 < divisor → divisor ≤ more →
    65536 ≤ double_word more less / divisor
quotient-no_word more less divisor some under = le-div 65536 (double_word more less) divisor some (omega arith)

-- the two tests by which there is a quotient
by_tests : (above some word : Bool) (pair : ℕ × ℕ) → (above ≡ true → some ≡ true) →
    (above ≡ true → word ≡ true) → (above ≡ false → (some && word) ≡ false) →
    is_some (if above then Some pair else None) ≡ (some && word)
by_tests true some word pair is_some_then is_word_then none =
    ap (λ (b : Bool). true && b) (sym (is_word_then refl)) ∙ ap (λ (b : Bool). b && word) (sym (is_some_then refl))
by_tests false some word pair is_some_then is_word_then none = sym (none refl)

above_some : (more divisor : ℕ) (some : Bool) → nat_lt 0 divisor ≡ some → nat_lt more divisor ≡ true → some ≡ true
above_some more divisor true e above = refl
above_some more divisor false e above = absurd (grind (arith, nat_tests))

above_word : (more less divisor : ℕ) (word : Bool) → less < 65536 →
    nat_lt (double_word more less / divisor) 65536 ≡ word → nat_lt more divisor ≡ true → word ≡ true
above_word more less divisor true lt e above = refl
above_word more less divisor false lt e above =
    let fits = quotient-word more less divisor lt (grind (arith, nat_tests)) in
    absurd (grind (arith, nat_tests))

under_none : (more less divisor : ℕ) (some word : Bool) → nat_lt 0 divisor ≡ some →
    nat_lt (double_word more less / divisor) 65536 ≡ word → nat_lt more divisor ≡ false → (some && word) ≡ false
under_none more less divisor false word p q under = refl
under_none more less divisor true false p q under = refl
under_none more less divisor true true p q under =
    let over = quotient-no_word more less divisor (grind (arith, nat_tests)) (grind (arith, nat_tests)) in
    absurd (grind (arith, nat_tests))

pub quotient_is_word : (more less divisor : ℕ) → less < 65536 →
    is_some (division_of more less divisor) ≡ has_quotient more less divisor
quotient_is_word more less divisor lt =
    by_tests (nat_lt more divisor) (nat_lt 0 divisor) (nat_lt (double_word more less / divisor) 65536) _
    (above_some more divisor (nat_lt 0 divisor) refl)
    (above_word more less divisor (nat_lt (double_word more less / divisor) 65536) lt refl)
    (under_none more less divisor (nat_lt 0 divisor) (nat_lt (double_word more less / divisor) 65536) refl refl)
