-- A shift to the left overflows where the sign bit changes at some moment of it.
use Rattle.std.proofs.Common.{◌≡◌, ℕ, zero, suc, ◌+◌, ◌-◌, ◌*◌, ◌/◌, ◌%◌, ◌^◌, ◌<◌, ◌≤◌, Bool, true, false, refl, sym}
use Rattle.std.proofs.Common.{ap, ◌∙◌, arith, pos, negsuc, ◌-ℤ◌, ◌*ℤ◌}
use Rattle.std.specs.Prelude.{not, ◌||◌, eqb, nat_lt, nat_le, neg_ℤ, if◌then◌else◌}
use Rattle.std.proofs.Math.Nat.{pow-suc, mul_assoc, mul_comm, add-mul, mul-pos}
use Rattle.std.proofs.lemmas.Nat.{pow_pos}
use Rattle.std.proofs.lemmas.Int.{ints}
use Rattle.std.proofs.lemmas.Bool.Decides.{nat_tests}
use Rattle.tms_defs.specs.declared.instruction.ShiftOp.TheVariants.{SLA}
use Rattle.tms_defs.specs.Flags.{Word, leaves_range}
use Rattle.tms_defs.specs.Shifts.{sign_after, sign_changes, shift_overflows}

doubled : (word k : ℕ) → word * 2 ^ suc k ≡ 2 * (word * 2 ^ k)
doubled word k = ap (λ n. word * n) (pow-suc 2 k) ∙ sym (mul_assoc word (2 ^ k) 2) ∙ mul_comm (word * 2 ^ k) 2

-- one place more, from a number without sign
more-positive : (changed : Bool) (x y first : ℕ) → first ≡ 0 → y ≡ 2 * x → changed ≡ nat_le 32768 x →
    (changed || not (eqb (y / 32768 % 2) first)) ≡ nat_le 32768 y
more-positive true x y first none twice was = grind (arith, nat_tests)
more-positive false x y first none twice was = by (eqb (y / 32768 % 2) first) refl
  where
    by : (same : Bool) → eqb (y / 32768 % 2) first ≡ same → not same ≡ nat_le 32768 y
    by true e = grind (arith, nat_tests)
    by false e = grind (arith, nat_tests)

-- one place more, from a number with a sign, whose magnitude is m
more-negative : (changed : Bool) (x y m n p first : ℕ) → first ≡ 1 → x + m ≡ 65536 * p → y ≡ 2 * x → n ≡ 2 * m → 0 < m →
    changed ≡ nat_lt 32768 m → (changed || not (eqb (y / 32768 % 2) first)) ≡ nat_lt 32768 n
more-negative true x y m n p first one whole twice twice_m some was = grind (arith, nat_tests)
more-negative false x y m n p first one whole twice twice_m some was =
    by (grind (arith, nat_tests)) (eqb (y / 32768 % 2) first) refl
  where
    by : m ≤ 32768 → (same : Bool) → eqb (y / 32768 % 2) first ≡ same → not same ≡ nat_lt 32768 n
    by small true e =
        let odd : y / 32768 % 2 ≡ 1 = grind (arith, nat_tests) in
        let fits : n ≤ 32768 = omega arith in
        grind (arith, nat_tests)
    by small false e =
        let even : y / 32768 % 2 ≡ 0 = grind (arith, nat_tests) in
        let over : 32768 < n = omega arith in
        grind (arith, nat_tests)

sign_changes-positive : (word k : ℕ) → word < 32768 → sign_changes word k ≡ nat_le 32768 (word * 2 ^ k)
sign_changes-positive word zero lt = grind (arith, nat_tests)
sign_changes-positive word (suc k) lt =
    more-positive (sign_changes word k) (word * 2 ^ k) (word * 2 ^ suc k) (sign_after word 0) (omega arith)
    (doubled word k) (sign_changes-positive word k lt)

sign_changes-negative : (word k : ℕ) → 32768 ≤ word → word < 65536 → sign_changes word k
    ≡ nat_lt 32768 ((65536 - word) * 2 ^ k)
sign_changes-negative word zero from lt = grind (arith, nat_tests)
sign_changes-negative word (suc k) from lt =
    let split = λ (e : word + (65536 - word) ≡ 65536). sym (add-mul word (65536 - word) (2 ^ k))
    ∙ ap (λ n. n * 2 ^ k) e in
    more-negative (sign_changes word k) (word * 2 ^ k) (word * 2 ^ suc k) ((65536 - word) * 2 ^ k)
    ((65536 - word) * 2 ^ suc k) (2 ^ k) (sign_after word 0) (omega arith) (split (omega arith)) (doubled word k)
    (doubled (65536 - word) k) (mul-pos (omega arith) (pow_pos k)) (sign_changes-negative word k from lt)

leaves_range-negative : (m : ℕ) → leaves_range Word (neg_ℤ (pos m)) ≡ nat_lt 32768 m
leaves_range-negative zero = refl
leaves_range-negative (suc n) = grind (arith, nat_tests)

pub shift_overflows-sign_changes : (word count : ℕ) → word < 65536 → shift_overflows SLA word count
    ≡ sign_changes word count
shift_overflows-sign_changes word count lt = by (nat_lt word 32768) refl
  where
    by : (b : Bool) → nat_lt word 32768 ≡ b →
        leaves_range Word ((if b then pos word else pos word -ℤ pos 65536) *ℤ pos (2 ^ count))
        ≡ sign_changes word count
    by true e = let low : word < 32768 = grind (arith, nat_tests) in sym (sign_changes-positive word count low)
    by false e =
        let from : 32768 ≤ word = grind (arith, nat_tests) in
        let negative : pos word -ℤ pos 65536 ≡ negsuc (65535 - word) = omega (arith, ints) in
        let magnitude : suc (65535 - word) ≡ 65536 - word = omega arith in
        rw negative
        (rw magnitude (leaves_range-negative ((65536 - word) * 2 ^ count) ∙ sym (sign_changes-negative word count from lt)))
