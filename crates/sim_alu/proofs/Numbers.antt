-- What word instructions make of numbers in registers, at each width.
use Rattle.std.proofs.Common.{ℕ, ◌<◌, ◌≡◌, ap, arith, refl}
use Rattle.sim_rows.proofs.Common.{absolute_flags, absolute_of, Byte, complement_of, conjunction_of, difference_flags, difference_of, exclusive_or_of}
use Rattle.sim_rows.proofs.Common.{in_register, modulus, negation_flags, negation_of, of_register, ones_cleared, ones_set, status_byte, sum_flags, sum_of}
use Rattle.sim_rows.proofs.Common.{Width, Word}
use Rattle.sim_alu.proofs.Bytes

-- ---- the numbers

pub source_is : (w : Width) (y : ℕ) → of_register w (in_register w y) ≡ y
source_is Byte y = omega arith
source_is Word y = refl

pub sum_is : (w : Width) (x y : ℕ) → x < modulus w → y < modulus w → of_register w (sum_of Word (in_register w x) (in_register w y)) ≡ sum_of w x y
sum_is Byte x y h k = omega arith
sum_is Word x y h k = refl

pub difference_is : (w : Width) (x y : ℕ) → x < modulus w → y < modulus w → of_register w (difference_of Word (in_register w x) (in_register w y)) ≡
    difference_of w x y
difference_is Byte x y h k = omega arith
difference_is Word x y h k = refl

pub negation_is : (w : Width) (x : ℕ) → x < modulus w → of_register w (negation_of Word (in_register w x)) ≡ negation_of w x
negation_is Byte x h = omega arith
negation_is Word x h = refl

pub absolute_is : (w : Width) (x : ℕ) → x < modulus w → of_register w (absolute_of Word (in_register w x)) ≡ absolute_of w x
absolute_is Byte x h = Bytes.absolute_high x h
absolute_is Word x h = refl

pub complement_is : (w : Width) (x : ℕ) → x < modulus w → of_register w (complement_of Word (in_register w x)) ≡ complement_of w x
complement_is Byte x h = omega arith
complement_is Word x h = refl

pub zero_is : (w : Width) → of_register w 0 ≡ 0
zero_is Byte = refl
zero_is Word = refl

twice_complement : (y : ℕ) → y < 65536 → complement_of Word (complement_of Word y) ≡ y
twice_complement y k = omega arith

pub common_is : (w : Width) (x y : ℕ) → x < modulus w → y < modulus w →
    of_register w (ones_cleared Word (in_register w x) (complement_of Word (in_register w y))) ≡ conjunction_of x y
common_is Byte x y h k = Bytes.common_high x y h k
common_is Word x y h k = ap (conjunction_of x) (twice_complement y k)

pub ones_are : (w : Width) (x y : ℕ) → x < modulus w → y < modulus w → of_register w (ones_set (in_register w x) (in_register w y)) ≡ ones_set x y
ones_are Byte x y h k = Bytes.ones_high x y h k
ones_are Word x y h k = refl

pub exclusive_is : (w : Width) (x y : ℕ) → x < modulus w → y < modulus w → of_register w (exclusive_or_of (in_register w x) (in_register w y)) ≡
    exclusive_or_of x y
exclusive_is Byte x y h k = Bytes.exclusive_high x y h k
exclusive_is Word x y h k = refl

-- INCT and DECT double the 1 in register 6
pub twice_one : (w : Width) → sum_of Word (in_register w 1) (in_register w 1) ≡ in_register w 2
twice_one Byte = refl
twice_one Word = refl

-- ---- the status

pub sum_status : (w : Width) (x y : ℕ) → x < modulus w → y < modulus w → status_byte (sum_flags Word (in_register w x) (in_register w y)) ≡ status_byte
    (sum_flags w x y)
sum_status Byte x y h k = Bytes.sum_status x y h k
sum_status Word x y h k = refl

pub difference_status : (w : Width) (x y : ℕ) → x < modulus w → y < modulus w →
    status_byte (difference_flags Word (in_register w x) (in_register w y)) ≡ status_byte (difference_flags w x y)
difference_status Byte x y h k = Bytes.difference_status x y h k
difference_status Word x y h k = refl

pub negation_status : (w : Width) (x : ℕ) → x < modulus w → status_byte (negation_flags Word (in_register w x)) ≡ status_byte (negation_flags w x)
negation_status Byte x h = Bytes.negation_status x h
negation_status Word x h = refl

pub absolute_status : (w : Width) (x : ℕ) → x < modulus w → status_byte (absolute_flags Word (in_register w x)) ≡ status_byte (absolute_flags w x)
absolute_status Byte x h = Bytes.absolute_status x h
absolute_status Word x h = refl
