-- Four digits as two bytes.
use Rattle.std.proofs.Common.{◌≡◌, ℕ, ◌+◌, ◌*◌, Bool, true, false, List, [], ◌∷◌, length, Some, Ok, refl, arith}
use Rattle.std.specs.Prelude.{◌&&◌}
use Rattle.std.proofs.lemmas.Bool.Decides.{nat_tests}
use Rattle.hex.specs.Hex.{hex_digit_value, decode_pairs, decode_sized}
use Rattle.source_defs.specs.Numbers.{is_hexadecimal_digit, digit_value, all_hexadecimal_digits, value_after}

digit_is : (c : ℕ) → is_hexadecimal_digit c ≡ true → hex_digit_value c ≡ Some (digit_value c)
digit_is c h = grind (arith, nat_tests)

record AreDigits (a b c d : ℕ) : Type 0 where
  first : is_hexadecimal_digit a ≡ true
  second : is_hexadecimal_digit b ≡ true
  third : is_hexadecimal_digit c ≡ true
  fourth : is_hexadecimal_digit d ≡ true

are_digits : (a b c d : ℕ) → all_hexadecimal_digits (a ∷ b ∷ c ∷ d ∷ []) ≡ true → AreDigits a b c d
are_digits a b c d h = by (is_hexadecimal_digit a) (is_hexadecimal_digit b) (is_hexadecimal_digit c) (is_hexadecimal_digit d) refl refl refl refl h
  where
    by : (p q r s : Bool) → is_hexadecimal_digit a ≡ p → is_hexadecimal_digit b ≡ q → is_hexadecimal_digit c ≡ r → is_hexadecimal_digit d ≡ s
        → (p && (q && (r && (s && true)))) ≡ true → AreDigits a b c d
    by true true true true e f g i h = record { first = e; second = f; third = g; fourth = i }
    by true true true false e f g i h = absurd cc
    by true true false s e f g i h = absurd cc
    by true false r s e f g i h = absurd cc
    by false q r s e f g i h = absurd cc

-- what four digits stand for as two bytes
pub record TwoBytes (digits : List ℕ) : Type 0 where
  pub high : ℕ
  pub low : ℕ
  pub decoded : decode_sized digits 2 ≡ Ok (high ∷ low ∷ [])
  pub value : high * 256 + low ≡ value_after 16 0 digits

two_bytes_of : (a b c d : ℕ) → AreDigits a b c d → TwoBytes (a ∷ b ∷ c ∷ d ∷ [])
unfolding decode_pairs
two_bytes_of a b c d are = record {
  high = digit_value a * 16 + digit_value b;
  low = digit_value c * 16 + digit_value d;
  decoded = rw (digit_is a are.first, digit_is b are.second, digit_is c are.third, digit_is d are.fourth) refl;
  value = omega arith;
}

pub two_bytes : (digits : List ℕ) → length digits ≡ 4 → all_hexadecimal_digits digits ≡ true → TwoBytes digits
two_bytes (a ∷ b ∷ c ∷ d ∷ []) size h = two_bytes_of a b c d (are_digits a b c d h)
two_bytes [] size h = absurd (omega arith)
two_bytes (a ∷ []) size h = absurd (omega arith)
two_bytes (a ∷ b ∷ []) size h = absurd (omega arith)
two_bytes (a ∷ b ∷ c ∷ []) size h = absurd (omega arith)
two_bytes (a ∷ b ∷ c ∷ d ∷ e ∷ rest) size h = absurd (omega arith)
