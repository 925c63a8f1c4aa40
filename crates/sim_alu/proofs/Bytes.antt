-- What word instructions make of bytes in the high halves of registers.
use Rattle.std.proofs.Common.{ℕ, ◌/◌, ◌<◌, ◌≡◌, ◌∙◌, Bool, eqb, refl, true, false, arith, pos, ◌-ℤ◌}
use Rattle.std.specs.Prelude.{◌==◌, nat_lt, int_lt, if◌then◌else◌}
use Rattle.std.proofs.lemmas.Int.{ints}
use Rattle.std.proofs.lemmas.Nat.{and_shr, or_shr, xor_shr}
use Rattle.std.proofs.lemmas.Bool.{agree_below, agree_below_at, eqb-true}
use Rattle.std.proofs.lemmas.Bool.Decides.{nat_tests}
use Rattle.tms_defs.specs.Words.{high, join}
use Rattle.tms_defs.specs.Flags.{absolute_flags, absolute_of, Byte, difference_carries, difference_flags, difference_of, difference_overflows, is_negative}
use Rattle.tms_defs.specs.Flags.{negation_flags, result_flags, signed, sum_carries, sum_flags, sum_of, sum_overflows, Word}
use Rattle.tms_defs.specs.Logic.{complement_of, conjunction_of, exclusive_or_of, ones_cleared, ones_set}
use Rattle.tms_defs.proofs.OverflowLaws.{difference_overflows_by_signs, sum_overflows_by_signs}
use Rattle.gpl_step_defs.specs.Changes.{status_byte}

-- a test that holds of all bytes
abbrev of_all : (ℕ → Bool) → Bool
of_all f = agree_below f (λ _. true) 256

at_byte : (f : ℕ → Bool) (x : ℕ) → of_all f ≡ true → x < 256 → f x ≡ true
at_byte f x all h = agree_below_at f (λ _. true) 256 x all h

-- a byte in a register
abbrev pub reg : ℕ → ℕ
reg x = join x 0

negative : (n : ℕ) → is_negative Word (reg n) ≡ is_negative Byte n
negative n = grind (arith, nat_tests)

positive : (n : ℕ) → n < 256 → int_lt (pos 0) (signed Word (reg n)) ≡ int_lt (pos 0) (signed Byte n)
positive n lt = let same : nat_lt (reg n) 32768 ≡ nat_lt n 128 = grind (arith, nat_tests) in rw same (by (nat_lt n 128) refl)
  where
    by : (b : Bool) → nat_lt n 128 ≡ b → int_lt (pos 0) (if b then pos (reg n) else pos (reg n) -ℤ pos 65536) ≡ int_lt (pos 0) (if b then pos n else pos n -ℤ pos 256)
    by true e = grind (arith, ints, nat_tests)
    by false e = grind (arith, ints, nat_tests)

-- the status by a byte in a register
by_register : (n : ℕ) (carry overflow : Bool) → n < 256 → status_byte (result_flags Word (reg n) carry overflow) ≡ status_byte (result_flags Byte n carry overflow)
by_register n carry overflow lt =
    let some : nat_lt 0 (reg n) ≡ nat_lt 0 n = grind (arith, nat_tests) in
    let none : (reg n == 0) ≡ (n == 0) = grind (arith, nat_tests) in
    rw (some, none, positive n lt) refl

pub sum_status : (x y : ℕ) → x < 256 → y < 256 → status_byte (sum_flags Word (reg x) (reg y)) ≡ status_byte (sum_flags Byte x y)
sum_status x y h k =
    let is : sum_of Word (reg x) (reg y) ≡ reg (sum_of Byte x y) = omega arith in
    let carry : sum_carries Word (reg x) (reg y) ≡ sum_carries Byte x y = grind (arith, nat_tests) in
    let first = sum_overflows_by_signs Word (reg x) (reg y) (omega arith) (omega arith) in
    let over : sum_overflows Word (reg x) (reg y) ≡ sum_overflows Byte x y =
    rw (first, sum_overflows_by_signs Byte x y h k, is, negative x, negative y, negative (sum_of Byte x y)) refl in
    rw (is, carry, over) (by_register (sum_of Byte x y) _ _ (omega arith))

pub difference_status : (x y : ℕ) → x < 256 → y < 256 → status_byte (difference_flags Word (reg x) (reg y)) ≡ status_byte (difference_flags Byte x y)
difference_status x y h k =
    let is : difference_of Word (reg x) (reg y) ≡ reg (difference_of Byte x y) = omega arith in
    let carry : difference_carries (reg x) (reg y) ≡ difference_carries x y = grind (arith, nat_tests) in
    let first = difference_overflows_by_signs Word (reg x) (reg y) (omega arith) (omega arith) in
    let over : difference_overflows Word (reg x) (reg y) ≡ difference_overflows Byte x y =
    rw (first, difference_overflows_by_signs Byte x y h k, is, negative x, negative y, negative (difference_of Byte x y)) refl in
    rw (is, carry, over) (by_register (difference_of Byte x y) _ _ (omega arith))

pub negation_status : (x : ℕ) → x < 256 → status_byte (negation_flags Word (reg x)) ≡ status_byte (negation_flags Byte x)
negation_status x h = eqb-true _ _ (at_byte (λ x. eqb (status_byte (negation_flags Word (reg x))) (status_byte (negation_flags Byte x))) x refl h)

pub absolute_status : (x : ℕ) → x < 256 → status_byte (absolute_flags Word (reg x)) ≡ status_byte (absolute_flags Byte x)
absolute_status x h = eqb-true _ _ (at_byte (λ x. eqb (status_byte (absolute_flags Word (reg x))) (status_byte (absolute_flags Byte x))) x refl h)

pub absolute_high : (x : ℕ) → x < 256 → high (absolute_of Word (reg x)) ≡ absolute_of Byte x
absolute_high x h = eqb-true _ _ (at_byte (λ x. eqb (high (absolute_of Word (reg x))) (absolute_of Byte x)) x refl h)

-- bit by bit
high_reg : (x : ℕ) → reg x / 256 ≡ x
high_reg x = omega arith

pub common_high : (x y : ℕ) → x < 256 → y < 256 → high (ones_cleared Word (reg x) (complement_of Word (reg y))) ≡ conjunction_of x y
common_high x y h k =
    let twice : complement_of Word (complement_of Word (reg y)) ≡ reg y = omega arith in
    rw twice (and_shr (reg x) (reg y) 8 ∙ rw (high_reg x, high_reg y) refl)

pub ones_high : (x y : ℕ) → x < 256 → y < 256 → high (ones_set (reg x) (reg y)) ≡ ones_set x y
ones_high x y h k = or_shr (reg x) (reg y) 8 ∙ rw (high_reg x, high_reg y) refl

pub exclusive_high : (x y : ℕ) → x < 256 → y < 256 → high (exclusive_or_of (reg x) (reg y)) ≡ exclusive_or_of x y
exclusive_high x y h k = xor_shr (reg x) (reg y) 8 ∙ rw (high_reg x, high_reg y) refl
