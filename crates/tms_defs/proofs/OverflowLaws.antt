-- A sum and a difference overflow by the signs of their operands and results, as the manual says it.
use Rattle.std.proofs.Common.{◌≡◌, ℕ, ◌<◌, Bool, true, false, refl, arith, pos, ◌+ℤ◌, ◌-ℤ◌}
use Rattle.std.specs.Prelude.{nat_lt, if◌then◌else◌}
use Rattle.std.proofs.lemmas.Int.{ints}
use Rattle.std.proofs.lemmas.Bool.Decides.{nat_tests}
use Rattle.tms_defs.specs.Flags.{Width, Byte, Word, modulus, leaves_range, sum_overflows, sum_has_wrong_sign}
use Rattle.tms_defs.specs.Flags.{difference_overflows, difference_has_wrong_sign}

pub sum_overflows_by_signs : (width : Width) (d s : ℕ) → d < modulus width → s < modulus width →
    sum_overflows width d s ≡ sum_has_wrong_sign width d s
sum_overflows_by_signs Byte d s lt_d lt_s = by (nat_lt d 128) refl (nat_lt s 128) refl
  where
    by : (a : Bool) → nat_lt d 128 ≡ a → (b : Bool) → nat_lt s 128 ≡ b →
        leaves_range Byte ((if a then pos d else pos d -ℤ pos 256) +ℤ (if b then pos s else pos s -ℤ pos 256))
        ≡ sum_has_wrong_sign Byte d s
    by true p true q = grind (arith, ints, nat_tests)
    by true p false q = grind (arith, ints, nat_tests)
    by false p true q = grind (arith, ints, nat_tests)
    by false p false q = grind (arith, ints, nat_tests)
sum_overflows_by_signs Word d s lt_d lt_s = by (nat_lt d 32768) refl (nat_lt s 32768) refl
  where
    by : (a : Bool) → nat_lt d 32768 ≡ a → (b : Bool) → nat_lt s 32768 ≡ b →
        leaves_range Word ((if a then pos d else pos d -ℤ pos 65536) +ℤ (if b then pos s else pos s -ℤ pos 65536))
        ≡ sum_has_wrong_sign Word d s
    by true p true q = grind (arith, ints, nat_tests)
    by true p false q = grind (arith, ints, nat_tests)
    by false p true q = grind (arith, ints, nat_tests)
    by false p false q = grind (arith, ints, nat_tests)

pub difference_overflows_by_signs : (width : Width) (d s : ℕ) → d < modulus width → s < modulus width →
    difference_overflows width d s ≡ difference_has_wrong_sign width d s
difference_overflows_by_signs Byte d s lt_d lt_s = by (nat_lt d 128) refl (nat_lt s 128) refl
  where
    by : (a : Bool) → nat_lt d 128 ≡ a → (b : Bool) → nat_lt s 128 ≡ b →
        leaves_range Byte ((if a then pos d else pos d -ℤ pos 256) -ℤ (if b then pos s else pos s -ℤ pos 256))
        ≡ difference_has_wrong_sign Byte d s
    by true p true q = grind (arith, ints, nat_tests)
    by true p false q = grind (arith, ints, nat_tests)
    by false p true q = grind (arith, ints, nat_tests)
    by false p false q = grind (arith, ints, nat_tests)
difference_overflows_by_signs Word d s lt_d lt_s = by (nat_lt d 32768) refl (nat_lt s 32768) refl
  where
    by : (a : Bool) → nat_lt d 32768 ≡ a → (b : Bool) → nat_lt s 32768 ≡ b →
        leaves_range Word ((if a then pos d else pos d -ℤ pos 65536) -ℤ (if b then pos s else pos s -ℤ pos 65536))
        ≡ difference_has_wrong_sign Word d s
    by true p true q = grind (arith, ints, nat_tests)
    by true p false q = grind (arith, ints, nat_tests)
    by false p true q = grind (arith, ints, nat_tests)
    by false p false q = grind (arith, ints, nat_tests)
