-- Hexadecimal digits, and the values of the numbers that they write.
use Rattle.std.proofs.Common.{◌≡◌, ℕ, zero, suc, ◌+◌, ◌/◌, ◌%◌, ◌<◌, ◌≤◌, Bool, true, false, not, eqb, List, [], ◌∷◌, ◌++◌}
use Rattle.std.proofs.Common.{length, refl, ap, ◌∙◌, Ok, arith}
use Rattle.std.specs.List.{list_all}
use Rattle.std.specs.Prelude.{◌==◌, nat_lt, nat_le, map}
use Rattle.std.proofs.lemmas.Bool.{agree_below, agree_below_at}
use Rattle.std.proofs.lemmas.List.{length-map}
use Rattle.std.proofs.lemmas.Bool.Decides.{nat_tests}
use Rattle.source_defs.specs.Numbers.{hexadecimal_digit, is_hexadecimal_digit, digit_value, value_after}
use Rattle.source_defs.specs.Digits.{byte_digits, word_digits, hex_byte, hex_word}
use Rattle.source_defs.specs.Parentheses.{has_parentheses}
use Rattle.expression_defs.specs.Tokens.{Number, token_to, token_at, tokens_from, tokens}
use Rattle.listed_lines.proofs.Scans.{not_true, At, to_end, part_is, scanned}

pub eqb_same : (m n : ℕ) → eqb m n ≡ true → m ≡ n
eqb_same m n e = grind (arith, nat_tests)

-- a test that every digit passes
abbrev pub digits_pass : (ℕ → Bool) → Bool
digits_pass p = agree_below (λ d. p (hexadecimal_digit d)) (λ d. true) 16

pub digit_passes : (p : ℕ → Bool) (d : ℕ) → digits_pass p ≡ true → p (hexadecimal_digit (d % 16)) ≡ true
digit_passes p d e = agree_below_at (λ d. p (hexadecimal_digit d)) (λ d. true) 16 (d % 16) e (omega arith)

digit_back : (d : ℕ) → digit_value (hexadecimal_digit (d % 16)) ≡ d % 16
digit_back d = eqb_same _ _ (agree_below_at (λ d. eqb (digit_value (hexadecimal_digit d)) d) (λ d. true) 16 (d % 16) refl (omega arith))

abbrev digits_of : List ℕ → List ℕ
digits_of numbers = map (λ d. hexadecimal_digit (d % 16)) numbers

all_pass : (p : ℕ → Bool) (numbers : List ℕ) → digits_pass p ≡ true → list_all p (digits_of numbers) ≡ true
all_pass p [] e = refl
all_pass p (d ∷ numbers) e = rw (digit_passes p d e) (all_pass p numbers e)

abbrev of_word : ℕ → List ℕ
of_word n = n / 4096 ∷ n / 256 ∷ n / 16 ∷ n ∷ []

pub word_passes : (p : ℕ → Bool) (n : ℕ) → digits_pass p ≡ true → p 0x3E ≡ true → list_all p (hex_word n) ≡ true
unfolding word_digits
word_passes p n e f = rw f (all_pass p (of_word n) e)

pub byte_passes : (p : ℕ → Bool) (n : ℕ) → digits_pass p ≡ true → p 0x3E ≡ true → list_all p (hex_byte n) ≡ true
unfolding byte_digits
byte_passes p n e f = rw f (all_pass p (n / 16 ∷ n ∷ []) e)

-- a number ends in no parenthesis
pub none_closed : (n : ℕ) → has_parentheses (hex_word n) ≡ false
unfolding word_digits
none_closed n = rw (not_true _ (digit_passes (λ byte. not (byte == 0x29)) n refl)) refl

-- after the end of a text stand no tokens
none_left : (left : ℕ) (text : List ℕ) → tokens_from left text (length text) ≡ Ok []
unfolding tokens_from
none_left zero text = refl
none_left (suc left) text =
    let past : nat_lt (length text) (length text) ≡ false = grind (arith, nat_tests) in rw past refl

-- the tokens of digits after their sign
sign_tokens : (d : ℕ) (numbers : List ℕ) → length numbers ≤ 3 →
    tokens (0x3E ∷ digits_of (d ∷ numbers))
    ≡ Ok (token_to (Number (value_after 16 0 (digits_of (d ∷ numbers)))) 0 (1 + length (digits_of (d ∷ numbers))) ∷ [])
unfolding token_at tokens_from
sign_tokens d numbers few =
    let digits : List ℕ = digits_of (d ∷ numbers) in
    let left : At (0x3E ∷ digits) 1 (digits ++ []) = to_end (record { there = refl; size = omega arith }) in
    let size : length (digits_of numbers) ≡ length numbers = length-map numbers (λ d. hexadecimal_digit (d % 16)) in
    let ends = scanned digits [] left (λ byte. not (is_hexadecimal_digit byte)) (all_pass (λ byte. not (not (is_hexadecimal_digit byte))) (d ∷ numbers) refl) refl in
    let some : (1 + length digits == 1) ≡ false = grind (arith, nat_tests) in
    let start : nat_lt 0 (length (0x3E ∷ digits)) ≡ true = grind (arith, nat_tests) in
    let one : nat_lt 0 (length digits) ≡ true = grind (arith, nat_tests) in
    let few : nat_le (length digits) 4 ≡ true = grind (arith, nat_tests) in
    let end : 1 + length digits ≡ length (0x3E ∷ digits) = omega arith in
    rw (ends, some, part_is digits [] left, one, few, all_pass is_hexadecimal_digit (d ∷ numbers) refl, end, none_left (length digits) (0x3E ∷ digits), start) refl

pub word_tokens : (n : ℕ) → n < 65536 → tokens (hex_word n) ≡ Ok (token_to (Number n) 0 5 ∷ [])
unfolding word_digits
word_tokens n lt =
    let value : value_after 16 0 (digits_of (of_word n)) ≡ n =
    rw (digit_back (n / 4096), digit_back (n / 256), digit_back (n / 16), digit_back n) (omega arith) in
    sign_tokens (n / 4096) (n / 256 ∷ n / 16 ∷ n ∷ []) (omega arith) ∙ ap (λ n. Ok (token_to (Number n) 0 5 ∷ [])) value

pub byte_tokens : (n : ℕ) → n < 256 → tokens (hex_byte n) ≡ Ok (token_to (Number n) 0 3 ∷ [])
unfolding byte_digits
byte_tokens n lt =
    let value : value_after 16 0 (digits_of (n / 16 ∷ n ∷ [])) ≡ n = rw (digit_back (n / 16), digit_back n) (omega arith) in
    sign_tokens (n / 16) (n ∷ []) (omega arith) ∙ ap (λ n. Ok (token_to (Number n) 0 3 ∷ [])) value
