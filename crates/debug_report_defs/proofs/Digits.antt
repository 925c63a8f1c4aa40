-- Decimal and hexadecimal digits: tests that they pass, and the numbers that they are read as.
use Rattle.std.proofs.Common.{◌≡◌, ℕ, zero, suc, ◌+◌, ◌*◌, ◌/◌, ◌%◌, ◌^◌, ◌<◌, ◌≤◌, Bool, true, false, eqb, cond, nat_eq}
use Rattle.std.proofs.Common.{List, [], ◌∷◌, ◌++◌, refl, ◌∙◌, arith}
use Rattle.std.specs.List.{list_all}
use Rattle.std.specs.Fmt.{decimal, digits, digits_onto, digit_glyph}
use Rattle.std.proofs.lemmas.Fmt.{decimal_by_steps}
use Rattle.std.proofs.lemmas.Bool.{agree_below, agree_below_at}
use Rattle.source_defs.specs.Numbers.{hexadecimal_digit, digit_value, value_after}
use Rattle.source_defs.specs.Digits.{byte_digits, word_digits}
use Rattle.listed_lines.proofs.DigitLaws.{digits_pass, digit_passes, eqb_same}
use Rattle.debug_report_defs.specs.LineFronts.{decimal_value, hexadecimal_value}

-- what both branches have
pub cond_both : {A : Type 0} (P : A → Type 0) (b : Bool) (x y : A) → P x → P y → P (cond b x y)
cond_both P true x y p q = p
cond_both P false x y p q = q

-- ---- tests

-- a test that every decimal digit passes
abbrev pub decimals_pass : (ℕ → Bool) → Bool
decimals_pass p = agree_below (λ d. p (digit_glyph false d)) (λ d. true) 10

onto_passes : (p : ℕ → Bool) → decimals_pass p ≡ true → (k n : ℕ) (acc : List ℕ) → list_all p acc ≡ true → list_all p (digits_onto k 10 false n acc) ≡ true
onto_passes p e zero n acc all = all
onto_passes p e (suc k) n acc all =
    let glyph : p (digit_glyph false (n % 10)) ≡ true =
    agree_below_at (λ d. p (digit_glyph false d)) (λ d. true) 10 (n % 10) e (omega arith) in
    let more : list_all p (digit_glyph false (n % 10) ∷ acc) ≡ true = rw glyph all in
    cond_both (λ text. list_all p text ≡ true) (nat_eq (n / 10) 0) _ _ more
    (onto_passes p e k (n / 10) (digit_glyph false (n % 10) ∷ acc) more)

pub decimal_passes : (p : ℕ → Bool) (n : ℕ) → decimals_pass p ≡ true → list_all p (decimal n) ≡ true
unfolding digits
decimal_passes p n e = onto_passes p e 64 n [] refl

pub word_digits_pass : (p : ℕ → Bool) (n : ℕ) → digits_pass p ≡ true → list_all p (word_digits n) ≡ true
unfolding word_digits
word_digits_pass p n e = rw (digit_passes p (n / 4096) e, digit_passes p (n / 256) e, digit_passes p (n / 16) e, digit_passes p n e) refl

pub byte_digits_pass : (p : ℕ → Bool) (n : ℕ) → digits_pass p ≡ true → list_all p (byte_digits n) ≡ true
unfolding byte_digits
byte_digits_pass p n e = rw (digit_passes p (n / 16) e, digit_passes p n e) refl

-- ---- numbers

value_append : (base value : ℕ) (a b : List ℕ) → value_after base value (a ++ b) ≡ value_after base (value_after base value a) b
value_append base value [] b = refl
value_append base value (x ∷ a) b = value_append base (value * base + digit_value x) a b

pub digit_back : (d : ℕ) → digit_value (hexadecimal_digit (d % 16)) ≡ d % 16
digit_back d =
    eqb_same _ _
    (agree_below_at (λ d. eqb (digit_value (hexadecimal_digit d)) d) (λ d. true) 16 (d % 16) refl (omega arith))

pub decimal_digit_back : (d : ℕ) → d < 10 → digit_value (0x30 + d) ≡ d
decimal_digit_back d lt = eqb_same _ _ (agree_below_at (λ d. eqb (digit_value (0x30 + d)) d) (λ d. true) 10 d refl lt)

pub decimal_back : (n : ℕ) → n < 2 ^ 64 → decimal_value (decimal n) ≡ n
decimal_back n lt = decimal_by_steps (λ n text. decimal_value text ≡ n) one more n lt
  where
    one : (n : ℕ) → n < 10 → decimal_value ((48 + n) ∷ []) ≡ n
    one n lt = omega (arith, decimal_digit_back n lt)

    more : (n : ℕ) (ds : List ℕ) → 10 ≤ n → decimal_value ds ≡ n / 10 → decimal_value (ds ++ ((48 + n % 10) ∷ [])) ≡ n
    more n ds ge rest =
        let last : digit_value (48 + n % 10) ≡ n % 10 = decimal_digit_back (n % 10) (omega arith) in
        value_append 10 0 ds ((48 + n % 10) ∷ []) ∙ omega (arith, rest, last)

pub word_back : (n : ℕ) → n < 65536 → hexadecimal_value (word_digits n) ≡ n
unfolding word_digits
word_back n lt = rw (digit_back (n / 4096), digit_back (n / 256), digit_back (n / 16), digit_back n) (omega arith)

pub byte_back : (n : ℕ) → n < 256 → hexadecimal_value (byte_digits n) ≡ n
unfolding byte_digits
byte_back n lt = rw (digit_back (n / 16), digit_back n) (omega arith)

-- two bytes in a row are a word
pub bytes_back : (high low : ℕ) → high < 256 → low < 256 → hexadecimal_value (byte_digits high ++ byte_digits low) ≡ 256 * high + low
unfolding byte_digits
bytes_back high low p q =
    rw (digit_back (high / 16), digit_back high, digit_back (low / 16), digit_back low) (omega arith)
