-- What the code's comparisons say of the signed numbers of the flags, and its operations bit by bit of both widths.
use Rattle.std.proofs.Common.{◌≡◌, ℕ, ◌<◌, ◌-◌, ◌%◌, Bool, true, false, refl, sym, ap, ◌∙◌, arith, pos, ◌-ℤ◌}
use Rattle.std.specs.Prelude.{nat_lt, int_lt, ◌&&◌, if◌then◌else◌}
use Rattle.std.proofs.lemmas.Int.{ints}
use Rattle.std.proofs.lemmas.Bool.Decides.{nat_tests}
use Rattle.std.proofs.Math.Nat.{mod-eq_of_lt}
use Rattle.std.proofs.lemmas.Nat.{and_le_l, and_mod, or_lt}
use Rattle.std.specs.Int.Bits.{bit_and}
use Rattle.tms_defs.specs.Flags.{modulus, half, byte_or_word, signed}
use Rattle.tms_defs.specs.Logic.{ones_set, ones_cleared}

above : (modulus half n : ℕ) (positive below : Bool) → nat_lt 0 n ≡ positive → nat_lt n half ≡ below → n < modulus →
    int_lt (pos 0) (if below then pos n else pos n -ℤ pos modulus) ≡ (positive && below)
above modulus half n true true p b fits = grind (arith, ints, nat_tests)
above modulus half n true false p b fits = grind (arith, ints, nat_tests)
above modulus half n false true p b fits = grind (arith, ints, nat_tests)
above modulus half n false false p b fits = grind (arith, ints, nat_tests)

-- a number is above 0 as a signed number
pub signed_above : (byte : Bool) (n : ℕ) → n < modulus (byte_or_word byte) → int_lt (pos 0) (signed (byte_or_word byte) n)
    ≡ (nat_lt 0 n && nat_lt n (half (byte_or_word byte)))
signed_above true n fits = above 256 128 n (nat_lt 0 n) (nat_lt n 128) refl refl fits
signed_above false n fits = above 65536 32768 n (nat_lt 0 n) (nat_lt n 32768) refl refl fits

-- the ones of two numbers of a width are a number of that width
pub ones_fit : (byte : Bool) (d s : ℕ) → d < modulus (byte_or_word byte) → s < modulus (byte_or_word byte) →
    ones_set d s < modulus (byte_or_word byte)
ones_fit true d s p q = or_lt 8 d s p q
ones_fit false d s p q = or_lt 16 d s p q

left_fit : (modulus d n : ℕ) → d < modulus → bit_and d n < modulus
left_fit modulus d n p = omega (arith, and_le_l d n)

-- and so are the ones that are left
pub ones_left_fit : (byte : Bool) (d s : ℕ) → d < modulus (byte_or_word byte) → bit_and d (65535 - s) < modulus (byte_or_word byte)
ones_left_fit true d s p = left_fit 256 d (65535 - s) p
ones_left_fit false d s p = left_fit 65536 d (65535 - s) p

-- in a byte the ones of a word's complement are those of the byte's complement
pub ones_left : (byte : Bool) (d s : ℕ) → d < modulus (byte_or_word byte) → s < modulus (byte_or_word byte) →
    bit_and d (65535 - s) ≡ ones_cleared (byte_or_word byte) d s
ones_left true d s p q =
    let within : bit_and d (65535 - s) < 256 = left_fit 256 d (65535 - s) p in
    let own : d % 256 ≡ d = mod-eq_of_lt p in
    let other : (65535 - s) % 256 ≡ 255 - s = omega arith in
    sym (mod-eq_of_lt within) ∙ and_mod d (65535 - s) 8 ∙ ap (λ x. bit_and x ((65535 - s) % 256)) own ∙ ap (bit_and d) other
ones_left false d s p q = refl
