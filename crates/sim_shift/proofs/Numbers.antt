-- A shift of a word is the shift of the byte in its high half.
use Rattle.std.proofs.Common.{ℕ, ◌<◌, ◌≡◌, arith, Bool, eqb, refl, true}
use Rattle.std.proofs.lemmas.Bool.{agree_below, agree_below_at, eqb-true}
use Rattle.sim_rows.proofs.Common.{Byte, count_of, high, in_register, join, modulus, of_register, ones_set, repeated, repeated_sign, shifted, shifted_left}
use Rattle.sim_rows.proofs.Common.{shifted_right, SLA, SRA, SRC, SRL, swapped, Width, Word}
use Rattle.sim_shift.specs.Pieces.{low_four}

-- two numbers that agree for all counts and bytes
abbrev same_byte : (ℕ → ℕ → ℕ) → (ℕ → ℕ → ℕ) → ℕ → ℕ → Bool
same_byte f g count byte = eqb (f count byte) (g count byte)

abbrev same_count : (ℕ → ℕ → ℕ) → (ℕ → ℕ → ℕ) → ℕ → Bool
same_count f g count = agree_below (same_byte f g count) (λ _. true) 256

agree : (f g : ℕ → ℕ → ℕ) → agree_below (same_count f g) (λ _. true) 16 ≡ true → (count byte : ℕ) → count < 16 → byte < 256 → f count byte ≡ g count byte
agree f g e count byte h k =
    eqb-true (f count byte) (g count byte) (agree_below_at (same_byte f g count) (λ _. true) 256 byte
    (agree_below_at (same_count f g) (λ _. true) 16 count e h) k)

pub arithmetic : (w : Width) (x count : ℕ) → x < modulus w → count < 16 → of_register w (shifted SRA (in_register w x) count) ≡ shifted_right w
    (repeated_sign w x) x count
arithmetic Byte x count h k = agree (λ n b. high (shifted SRA (join b 0) n)) (λ n b. shifted_right Byte (repeated_sign Byte b) b n) refl count x k h
arithmetic Word x count h k = refl

pub left : (w : Width) (x count : ℕ) → x < modulus w → count < 16 → of_register w (shifted SLA (in_register w x) count) ≡ shifted_left w x count
left Byte x count h k = agree (λ n b. high (shifted SLA (join b 0) n)) (λ n b. shifted_left Byte b n) refl count x k h
left Word x count h k = refl

pub right : (w : Width) (x count : ℕ) → x < modulus w → count < 16 → of_register w (shifted SRL (in_register w x) count) ≡ shifted_right w 0 x count
right Byte x count h k = agree (λ n b. high (shifted SRL (join b 0) n)) (λ n b. shifted_right Byte 0 b n) refl count x k h
right Word x count h k = refl

-- a number in a register, turned: a byte is in both halves
abbrev pub doubled : Width → ℕ → ℕ
doubled Byte word = ones_set word (swapped word)
doubled Word word = word

pub turned : (w : Width) (x count : ℕ) → x < modulus w → count < 16 → of_register w (shifted SRC (doubled w (in_register w x)) count) ≡ shifted_right w
    (repeated w x) x count
turned Byte x count h k =
    agree (λ n b. high (shifted SRC (ones_set (join b 0) (swapped (join b 0))) n)) (λ n b. shifted_right Byte (repeated Byte b) b n) refl count x k h
turned Word x count h k = refl

-- A count of 0 keeps the number.
pub kept_right : (w : Width) (from_the_left x : ℕ) → x < modulus w → shifted_right w from_the_left x 0 ≡ x
kept_right Byte from_the_left x h = omega arith
kept_right Word from_the_left x h = omega arith

pub kept_left : (w : Width) (x : ℕ) → x < modulus w → shifted_left w x 0 ≡ x
kept_left Byte x h = omega arith
kept_left Word x h = omega arith

-- the low four bits of a word, and of a byte that was swapped into the low half
pub count_of_word : (x : ℕ) → x < 65536 → low_four x ≡ count_of x
count_of_word x h = omega arith

pub count_of_byte : (x : ℕ) → x < 256 → low_four (swapped (join x 0)) ≡ count_of x
count_of_byte x h = omega arith
