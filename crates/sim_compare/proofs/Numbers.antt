-- Facts about numbers that the comparisons need.
use Rattle.std.proofs.Common.{ℕ, ℤ, ◌*◌, ◌+◌, ◌<◌, ◌==◌, ◌^◌, ◌∙◌, ◌≡◌, ap, arith, bit_and, eqb, false, int_le, int_lt, lit<, nat_le, nat_lt}
use Rattle.std.proofs.Common.{negsuc, not, pos, refl, sym, true}
use Rattle.std.proofs.lemmas.Int.{ints}
use Rattle.std.proofs.lemmas.Bool.Decides.{nat_tests}
use Rattle.std.proofs.lemmas.Nat.{and_block, and_comm}
use Rattle.sim_rows.proofs.Common.{Byte, in_register, is_set, join, last_out, modulus, signed, SLA, Width, Word}

-- what is above is not equal
pub above_is_not : (less more : ℕ) → nat_lt less more ≡ true → (more == less) ≡ false
above_is_not less more c = grind (arith, nat_tests)

-- ---- left-justified bytes are compared as bytes

-- what is in a register is a number of its width
pub number_fits : (width : Width) (number : ℕ) → in_register width number < 65536 → number < modulus width
number_fits Byte number h = omega arith
number_fits Word number h = h

pub below_in_register : (width : Width) (x y : ℕ) → nat_lt (in_register width x) (in_register width y) ≡ nat_lt x y
below_in_register Byte x y = grind (arith, nat_tests)
below_in_register Word x y = refl

pub equal_in_register : (width : Width) (x y : ℕ) → (in_register width x == in_register width y) ≡ (x == y)
equal_in_register Byte x y = grind (arith, nat_tests)
equal_in_register Word x y = refl

pub zero_in_register : (width : Width) (x : ℕ) → (in_register width x == 0) ≡ (x == 0)
zero_in_register Byte x = grind (arith, nat_tests)
zero_in_register Word x = refl

-- at most, and not above
pub at_most : (x y : ℕ) → not (nat_lt x y) ≡ nat_le y x
at_most x y = grind (arith, nat_tests)

-- bit by bit
pub ones_in_register : (width : Width) (x y : ℕ) → (bit_and (in_register width y) (in_register width x) == 0) ≡ (bit_and x y == 0)
ones_in_register Byte x y =
    let shared = and_block 8 y x 0 0 (lit< tt) (lit< tt) in
    let is : bit_and (join y 0) (join x 0) ≡ join (bit_and x y) 0 = rw (and_comm x y) (rw (times x, times y) shared ∙ sym (times (bit_and y x))) in
    ap (λ n. n == 0) is ∙ zero_in_register Byte (bit_and x y)
  where
    times : (n : ℕ) → join n 0 ≡ n * 2 ^ 8 + 0
    times n = omega arith
ones_in_register Word x y = ap (λ n. n == 0) (and_comm y x)

-- signed numbers
pub order_in_register : (width : Width) (x y : ℕ) → x < modulus width → y < modulus width →
    int_lt (signed Word (in_register width x)) (signed Word (in_register width y)) ≡ int_lt (signed width x) (signed width y)
order_in_register Byte x y h k =
    let first : nat_lt (join x 0) 32768 ≡ nat_lt x 128 = grind (arith, nat_tests) in
    let second : nat_lt (join y 0) 32768 ≡ nat_lt y 128 = grind (arith, nat_tests) in
    rw (first, second) (grind (arith, ints, nat_tests))
order_in_register Word x y h k = refl

pub at_most_signed : (a b : ℤ) → not (int_lt a b) ≡ int_le b a
at_most_signed (pos a) (pos b) = at_most a b
at_most_signed (negsuc a) (negsuc b) = at_most b a
at_most_signed _ _ = refl

-- ---- a bit of the status

pub bit_out_1 : (status less : ℕ) → status < 256 → less < 256 → last_out SLA (join status less) 1 ≡ is_set status 0x80
bit_out_1 status less h k = ap (λ n. eqb n 1) (omega arith)

pub bit_out_2 : (status less : ℕ) → status < 256 → less < 256 → last_out SLA (join status less) 2 ≡ is_set status 0x40
bit_out_2 status less h k = ap (λ n. eqb n 1) (omega arith)

pub bit_out_4 : (status less : ℕ) → status < 256 → less < 256 → last_out SLA (join status less) 4 ≡ is_set status 0x10
bit_out_4 status less h k = ap (λ n. eqb n 1) (omega arith)

pub bit_out_5 : (status less : ℕ) → status < 256 → less < 256 → last_out SLA (join status less) 5 ≡ is_set status 0x08
bit_out_5 status less h k = ap (λ n. eqb n 1) (omega arith)
