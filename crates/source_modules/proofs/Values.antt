-- Values of expressions are numbers of 16 bits.
use Rattle.std.proofs.Common.{◌≡◌, ℕ, zero, suc, ◌+◌, ◌-◌, ◌*◌, ◌/◌, ◌<◌, ◌≤◌, Bool, true, false, ◌&&◌, List, [], ◌∷◌, Some, None, Ok, Err, refl, length, arith}
use Rattle.std.specs.Prelude.{Option, IfOk, IfSome, ⊤, ◌||◌, nat_lt, nat_le, ◌==◌, if◌then◌else◌, slice_index, slice_range, map}
use Rattle.std.specs.List.{AllByRecursion}
use Rattle.std.proofs.lemmas.Bool.Decides.{nat_tests}
use Rattle.std.proofs.Math.Nat.{div-le_self}
use Rattle.source_defs.specs.Refusals.{◌>>=◌}
use Rattle.source_defs.specs.Characters.{is_quote, is_digit, is_letter, upper_case, is_lower_case}
use Rattle.source_defs.specs.Names.{is_name}
use Rattle.source_defs.specs.Lines.{part}
use Rattle.source_defs.specs.Numbers.{digit_value, value_after, is_hexadecimal_digit, all_digits, all_hexadecimal_digits, decimal_number, hexadecimal_number}
use Rattle.source_defs.specs.Fields.{in_quotes}
use Rattle.expression_defs.specs.declared.causes.ExprError.{ExprError}
use Rattle.expression_defs.specs.declared.causes.ExprError.TheVariants.{BadToken}
use Rattle.expression_defs.specs.Tokens.{Kind, Number, Name, Here, Text, Sign, Token, token_to, number_token, decimal_token, hexadecimal_token, name_token}
use Rattle.expression_defs.specs.Tokens.{text_token}
use Rattle.expression_defs.specs.Tokens.{token_at, tokens_from, tokens, digits_end, hexadecimal_end, name_end, text_end, is_hexadecimal_sign}
use Rattle.expression_defs.specs.Tokens.{is_location_sign, is_operator}
use Rattle.expression_defs.specs.Expression.{Value, Absolute, Relocatable, External, to_word, negated, magnitude, is_negative, quotient, sum, difference}
use Rattle.expression_defs.specs.Expression.{product, ratio, joined, minus}
use Rattle.expression_defs.specs.Expression.{characters, characters_value, known_value, operator_of, is_minus, kind_value, term_value, value_with}
use Rattle.expression_defs.specs.Expression.{minus_value, value, expression, absolute}
use Rattle.source_modules.proofs.Answers.{ok_then, any}
use Rattle.source_modules.proofs.Bytes.{AreBytes, range_bytes, characters_bytes}

-- a number of 16 bits, of either kind; an external name has none
abbrev pub FitsValue : Value → Type 0
FitsValue (Absolute number) = number < 65536
FitsValue (Relocatable number) = number < 65536
FitsValue (External name) = ⊤

abbrev pub FitsLook : (List ℕ → Option Value) → Type 0
FitsLook look = (name : List ℕ) → IfSome (look name) FitsValue

-- ---- operators

word_fits : (number : ℕ) → to_word number < 65536
word_fits number = omega arith

magnitude_fits : (number : ℕ) → number < 65536 → magnitude number < 65536
magnitude_fits number fits = by (is_negative number) refl
  where
    by : (b : Bool) → is_negative number ≡ b → (if b then 0x10000 - number else number) < 65536
    by true e = let le : 0x8000 ≤ number = grind (arith, nat_tests, e) in omega (arith, le)
    by false e = fits

quotient_fits : (a b : ℕ) → a < 65536 → quotient a b < 65536
quotient_fits a b fits =
    let whole : magnitude a / magnitude b < 65536 = omega (arith, magnitude_fits a fits, div-le_self (magnitude a) (magnitude b)) in
    by (is_negative a) (is_negative b) whole
  where
    by : (p q : Bool) → magnitude a / magnitude b < 65536
        → (if p then (if q then magnitude a / magnitude b else negated (magnitude a / magnitude b))
        else if q then negated (magnitude a / magnitude b) else magnitude a / magnitude b) < 65536
    by true true whole = whole
    by true false whole = word_fits (0x10000 - magnitude a / magnitude b)
    by false true whole = word_fits (0x10000 - magnitude a / magnitude b)
    by false false whole = whole

sum_fits : (a b : Value) → IfOk (sum a b) FitsValue
sum_fits (Absolute a) (Absolute b) = word_fits (a + b)
sum_fits (Absolute a) (Relocatable b) = word_fits (a + b)
sum_fits (Relocatable a) (Absolute b) = word_fits (a + b)
sum_fits _ _ = tt

difference_fits : (a b : Value) → IfOk (difference a b) FitsValue
difference_fits (Absolute a) (Absolute b) = word_fits (a + 0x10000 - b)
difference_fits (Relocatable a) (Absolute b) = word_fits (a + 0x10000 - b)
difference_fits (Relocatable a) (Relocatable b) = word_fits (a + 0x10000 - b)
difference_fits _ _ = tt

product_fits : (a b : Value) → IfOk (product a b) FitsValue
product_fits (Absolute a) (Absolute b) = word_fits (a * b)
product_fits _ _ = tt

ratio_by : (zero_by : Bool) (a b : ℕ) (cause : ExprError) → a < 65536 → IfOk (if zero_by then Err cause else Ok (Absolute (quotient a b))) FitsValue
ratio_by true a b cause fits = tt
ratio_by false a b cause fits = quotient_fits a b fits

ratio_fits : (a b : Value) → FitsValue a → IfOk (ratio a b) FitsValue
ratio_fits (Absolute a) (Absolute b) fits = ratio_by (b == 0) a b _ fits
ratio_fits _ _ fits = tt

joined_fits : (operator : ℕ) (a b : Value) → FitsValue a → IfOk (joined operator a b) FitsValue
joined_fits operator a b fits = by (operator == 0x2B) (operator == 0x2D) (operator == 0x2A)
  where
    by : (p q r : Bool) → IfOk (if p then sum a b else if q then difference a b else if r then product a b else ratio a b) FitsValue
    by true q r = sum_fits a b
    by false true r = difference_fits a b
    by false false true = product_fits a b
    by false false false = ratio_fits a b fits

minus_fits : (a : Value) → IfOk (minus a) FitsValue
minus_fits (Absolute a) = word_fits (0x10000 - a)
minus_fits _ = tt

-- ---- tokens

abbrev FitsKind : Kind → Type 0
FitsKind (Number number) = number < 65536
FitsKind _ = ⊤

abbrev FitsToken : Token → Type 0
FitsToken token = FitsKind token.kind

abbrev FitsNumber : Option ℕ → Type 0
FitsNumber found = IfSome found (λ number. number < 65536)

number_fits : (start end : ℕ) (found : Option ℕ) → FitsNumber found → IfOk (number_token start end found) FitsToken
number_fits start end (Some number) fits = fits
number_fits start end None fits = tt

decimal_fits : (digits : List ℕ) → FitsNumber (decimal_number digits)
decimal_fits digits = by (nat_lt 0 (length digits) && all_digits digits) (nat_le (value_after 10 0 digits) 65535) refl
  where
    by : (written small : Bool) → nat_le (value_after 10 0 digits) 65535 ≡ small
        → FitsNumber (if written && small then Some (value_after 10 0 digits) else None)
    by true true e = grind (arith, nat_tests, e)
    by true false e = tt
    by false small e = tt

-- up to four hexadecimal digits
hexadecimal_value : (digit : ℕ) → is_hexadecimal_digit digit ≡ true → digit_value digit < 16
hexadecimal_value digit is = by (is_digit digit) (is_lower_case digit) refl refl is
  where
    by : (p q : Bool) → is_digit digit ≡ p → is_lower_case digit ≡ q
        → (p || (nat_le 0x41 (if q then digit - 0x20 else digit) && nat_le (if q then digit - 0x20 else digit) 0x46)) ≡ true
        → (if p then digit - 0x30 else (if q then digit - 0x20 else digit) - 0x37) < 16
    by true q e f is = grind (arith, nat_tests, e)
    by false true e f is = grind (arith, nat_tests, is)
    by false false e f is = grind (arith, nat_tests, is)

first_of : (a b : Bool) → (a && b) ≡ true → a ≡ true
first_of true b e = refl
first_of false b e = cc e

second_of : (a b : Bool) → (a && b) ≡ true → b ≡ true
second_of true b e = e
second_of false b e = cc e

abbrev OfOne : ℕ → List ℕ → Type 0
OfOne digit digits = (digit_value digit < 16) × (all_hexadecimal_digits digits ≡ true)

one_digit : (digit : ℕ) (digits : List ℕ) → all_hexadecimal_digits (digit ∷ digits) ≡ true → OfOne digit digits
one_digit digit digits all = (
  hexadecimal_value digit (first_of (is_hexadecimal_digit digit) (all_hexadecimal_digits digits) all),
  second_of (is_hexadecimal_digit digit) (all_hexadecimal_digits digits) all,
)

digits_fit : (digits : List ℕ) → length digits ≤ 4 → all_hexadecimal_digits digits ≡ true → value_after 16 0 digits < 65536
digits_fit [] le all = omega arith
digits_fit (a ∷ []) le all = let p = one_digit a [] all in omega (arith, p.0)
digits_fit (a ∷ b ∷ []) le all =
    let p = one_digit a (b ∷ []) all in
    let q = one_digit b [] p.1 in
    omega (arith, p.0, q.0)
digits_fit (a ∷ b ∷ c ∷ []) le all =
    let p = one_digit a (b ∷ c ∷ []) all in
    let q = one_digit b (c ∷ []) p.1 in
    let r = one_digit c [] q.1 in
    omega (arith, p.0, q.0, r.0)
digits_fit (a ∷ b ∷ c ∷ d ∷ []) le all =
    let p = one_digit a (b ∷ c ∷ d ∷ []) all in
    let q = one_digit b (c ∷ d ∷ []) p.1 in
    let r = one_digit c (d ∷ []) q.1 in
    let s = one_digit d [] r.1 in
    omega (arith, p.0, q.0, r.0, s.0)
digits_fit (a ∷ b ∷ c ∷ d ∷ e ∷ digits) le all = absurd (omega (arith, le))

hexadecimal_fits : (digits : List ℕ) → FitsNumber (hexadecimal_number digits)
hexadecimal_fits digits = by (nat_lt 0 (length digits)) (nat_le (length digits) 4) (all_hexadecimal_digits digits) refl refl
  where
    by : (written few all : Bool) → nat_le (length digits) 4 ≡ few → all_hexadecimal_digits digits ≡ all
        → FitsNumber (if written && few && all then Some (value_after 16 0 digits) else None)
    by true true true e f = let le : length digits ≤ 4 = grind (arith, nat_tests, e) in digits_fit digits le f
    by true true false e f = tt
    by true false all e f = tt
    by false few all e f = tt

hexadecimal_by : (b : Bool) (start end : ℕ) (digits : List ℕ) → IfOk (if b then Err BadToken else number_token start end (hexadecimal_number digits)) FitsToken
hexadecimal_by true start end digits = tt
hexadecimal_by false start end digits = number_fits start end _ (hexadecimal_fits digits)

other_by : (b : Bool) (token : Token) (cause : ExprError) → FitsToken token → IfOk (if b then Ok token else Err cause) FitsToken
other_by true token cause fits = fits
other_by false token cause fits = tt

text_by : (b : Bool) (token : Token) (cause : ExprError) → FitsToken token → IfOk (if b then Err cause else Ok token) FitsToken
text_by true token cause fits = tt
text_by false token cause fits = fits

sign_fits : (text : List ℕ) (start : ℕ) → IfOk (hexadecimal_token text start) FitsToken
sign_fits text start =
    let end = hexadecimal_end text (start + 1) in
    hexadecimal_by (end == start + 1) start end (slice_range text (start + 1) end)

run_fits : (text : List ℕ) (start : ℕ) → IfOk (decimal_token text start) FitsToken
run_fits text start =
    let digits = slice_range text start (digits_end text start) in
    number_fits start (digits_end text start) (decimal_number digits) (decimal_fits digits)

name_fits : (text : List ℕ) (start : ℕ) → IfOk (name_token text start) FitsToken
name_fits text start =
    let field = slice_range text start (name_end text start) in
    other_by (is_name field) (token_to (Name (map upper_case field)) start (name_end text start)) BadToken tt

quoted_fits : (text : List ℕ) (start : ℕ) → IfOk (text_token text start) FitsToken
quoted_fits text start = text_by (in_quotes text start (text_end text start)) (token_to Text start (text_end text start)) BadToken tt

token_fits : (text : List ℕ) (start : ℕ) → IfOk (token_at text start) FitsToken
unfolding token_at
token_fits text start =
    let byte = slice_index text start in
    by (is_hexadecimal_sign byte) (is_digit byte) (is_letter byte) (is_quote byte) (is_location_sign byte) (is_operator byte)
  where
    by : (a b c d e f : Bool) → IfOk (if a then hexadecimal_token text start
        else if b then decimal_token text start
        else if c then name_token text start
        else if d then text_token text start
        else if e then Ok (token_to Here start (start + 1))
        else if f then Ok (token_to (Sign (slice_index text start)) start (start + 1))
        else Err BadToken) FitsToken
    by true b c d e f = sign_fits text start
    by false true c d e f = run_fits text start
    by false false true d e f = name_fits text start
    by false false false true e f = quoted_fits text start
    by false false false false true f = tt
    by false false false false false true = tt
    by false false false false false false = tt

abbrev FitsTokens : List Token → Type 0
FitsTokens tokens = AllByRecursion FitsToken tokens

tokens_fit : (left : ℕ) (text : List ℕ) (start : ℕ) → IfOk (tokens_from left text start) FitsTokens
unfolding tokens_from
tokens_fit zero text start = tt
tokens_fit (suc left) text start = by (nat_lt start (length text)) (λ from. tokens_fit left text from)
  where
    by : (b : Bool) → ((from : ℕ) → IfOk (tokens_from left text from) FitsTokens)
        → IfOk (if b then token_at text start >>= (λ token. tokens_from left text token.span.end >>= λ others. Ok (token ∷ others)) else Ok []) FitsTokens
    by true again =
        ok_then FitsToken FitsTokens (token_at text start) _ (token_fits text start)
        (λ token fits. ok_then FitsTokens FitsTokens (tokens_from left text token.span.end) _ (again token.span.end) (λ others are. (fits, are)))
    by false again = tt

-- ---- terms

known_fits : (found : Option Value) → IfSome found FitsValue → IfOk (known_value found) FitsValue
known_fits (Some value) fits = fits
known_fits None fits = tt

characters_fit : (text : List ℕ) → AreBytes text → IfOk (characters_value text) FitsValue
characters_fit [] are = tt
characters_fit (low ∷ []) are = omega (arith, are.0)
characters_fit (high ∷ low ∷ []) are = omega (arith, are.0, are.1.0)
characters_fit (a ∷ b ∷ c ∷ text) are = tt

module _ (look : List ℕ → Option Value) (here : Value) (text : List ℕ) (known : FitsLook look) (place : FitsValue here) (are : AreBytes text) where
  kind_fits : (kind : Kind) (written : List ℕ) → FitsKind kind → AreBytes written → IfOk (kind_value look here text kind written) FitsValue
  kind_fits (Number number) written fits bytes = fits
  kind_fits (Name name) written fits bytes = known_fits (look name) (known name)
  kind_fits Here written fits bytes = place
  kind_fits Text written fits bytes = characters_fit (characters written) (characters_bytes written bytes)
  kind_fits (Sign operator) written fits bytes = tt

  term_fits : (token : Token) → FitsToken token → IfOk (term_value look here text token) FitsValue
  term_fits token fits = kind_fits token.kind (part text token.span) fits (range_bytes text token.span.start token.span.end are)

  with_fits : (total : Value) (tokens : List Token) → FitsValue total → FitsTokens tokens → IfOk (value_with look here text total tokens) FitsValue
  with_fits total [] fits all = fits
  with_fits total (operator ∷ []) fits all = tt
  with_fits total (operator ∷ term ∷ others) fits all =
      ok_then (λ by. ⊤) FitsValue (operator_of operator.kind) _ (any (operator_of operator.kind))
      (λ by some. ok_then FitsValue FitsValue (term_value look here text term) _ (term_fits term all.1.0)
      (λ next found. ok_then FitsValue FitsValue (joined by total next) _ (joined_fits by total next fits)
      (λ total fits. with_fits total others fits all.1.1)))

  minus_by : (tokens : List Token) → FitsTokens tokens → IfOk (minus_value look here text tokens) FitsValue
  minus_by [] all = tt
  minus_by (term ∷ others) all =
      ok_then FitsValue FitsValue (term_value look here text term) _ (term_fits term all.0)
      (λ first fits. ok_then FitsValue FitsValue (minus first) _ (minus_fits first) (λ total found. with_fits total others found all.1))

  value_by : (b : Bool) (term : Token) (others : List Token) → FitsToken term → FitsTokens others
      → IfOk (if b then minus_value look here text others else term_value look here text term >>= (λ total. value_with look here text total others)) FitsValue
  value_by true term others fits all = minus_by others all
  value_by false term others fits all =
      ok_then FitsValue FitsValue (term_value look here text term) _ (term_fits term fits) (λ total found. with_fits total others found all)

  value_fits : (tokens : List Token) → FitsTokens tokens → IfOk (value look here text tokens) FitsValue
  value_fits [] all = tt
  value_fits (term ∷ others) all = value_by (is_minus term.kind) term others all.0 all.1

  pub expression_fits : IfOk (expression look here text) FitsValue
  expression_fits = ok_then FitsTokens FitsValue (tokens text) _ (tokens_fit (length text) text 0) (λ found all. value_fits found all)

pub absolute_fits : (value : Value) → FitsValue value → IfOk (absolute value) (λ number. number < 65536)
absolute_fits (Absolute number) fits = fits
absolute_fits (Relocatable number) fits = tt
absolute_fits (External name) fits = tt
