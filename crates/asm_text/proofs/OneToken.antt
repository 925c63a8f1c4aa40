-- A text of one token, and one whose first is none.
use Rattle.std.proofs.Common.{◌≡◌, ℕ, zero, suc, ◌-◌, ◌<◌, true, false, List, [], ◌∷◌, length, Ok, Err, refl, sym, ap, ◌∙◌, arith}
use Rattle.std.specs.Prelude.{Bool, nat_lt, Result, Option, if◌then◌else◌}
use Rattle.std.proofs.lemmas.Bool.Decides.{nat_tests}
use Rattle.expression_defs.specs.declared.causes.ExprError.{ExprError}
use Rattle.expression_defs.specs.declared.causes.ExprError.TheVariants.{BadToken, UnknownName, BadRelocation, DivideByZero, TooLarge, Memory}
use Rattle.source_defs.specs.Refusals.{◌>>=◌}
use Rattle.expression_defs.specs.Expression as defined
use Rattle.asm_text.specs.declared.expressions.values.Value.{Value}
use Rattle.asm_text.specs.GivenValues.{model_of_value, model_of_value_answer}
use Rattle.asm_text.specs.Yielded.{Yields}
use Rattle.expression_defs.specs.Tokens.{Token, Kind, Number, Name, Here, Text, Sign, token_at, tokens_from, tokens}
use Rattle.source_defs.specs.Lines.{part}

-- nothing is left at the end
none_left : (left : ℕ) (text : List ℕ) (at : ℕ) → at ≡ length text → tokens_from left text at ≡ Ok []
unfolding tokens_from
none_left zero text at end = refl
none_left (suc left) text at end =
    let past : nat_lt at (length text) ≡ false = grind (arith, nat_tests) in
    rw past refl

-- the first token, then the others
first_of : List ℕ → Result Token ExprError → Result (List Token) ExprError
first_of text first = first >>= λ token. tokens_from (length text - 1) text token.span.end >>= λ others. Ok (token ∷ others)

begins : (text : List ℕ) → 0 < length text → tokens text ≡ first_of text (token_at text 0)
unfolding tokens_from token_at first_of
begins [] some = absurd (omega (arith, some))
begins (byte ∷ rest) some =
    let more : nat_lt 0 (length (byte ∷ rest)) ≡ true = grind (arith, nat_tests) in
    let left : length (byte ∷ rest) - 1 ≡ length rest = omega arith in
    rw (more, left) refl

pub one_token : (text : List ℕ) (token : Token) → 0 < length text → Ok token ≡ token_at text 0 → token.span.end ≡ length text → tokens text ≡ Ok (token ∷ [])
unfolding first_of
one_token text token some is end =
    begins text some
    ∙ (ap (first_of text) (sym is)
    ∙ ap (λ (others : Result (List Token) ExprError). others >>= λ others. Ok (token ∷ others)) (none_left (length text - 1) text token.span.end end))

no_token : (text : List ℕ) (cause : ExprError) → 0 < length text → Err cause ≡ token_at text 0 → tokens text ≡ Err cause
unfolding first_of
no_token text cause some is = begins text some ∙ ap (first_of text) (sym is)

-- a token's value is that of the tokens that it is alone, where a minus sign has none in either way
alone : (look : List ℕ → Option defined.Value) (here : defined.Value) (text : List ℕ) (token : Token)
    → defined.term_value look here text token ≡ defined.value look here text (token ∷ [])
alone look here text token = by token.kind (part text token.span)
  where
    kept : (answer : Result defined.Value ExprError) → answer ≡ (answer >>= λ total. defined.value_with look here text total [])
    kept (Ok value) = refl
    kept (Err cause) = refl

    signed : (b : Bool) → Err BadToken ≡ (if b then defined.minus_value look here text [] else
        (Err BadToken >>= λ total. defined.value_with look here text total []))
    signed true = refl
    signed false = refl

    by : (kind : Kind) (written : List ℕ) → defined.kind_value look here text kind written
        ≡ (if defined.is_minus kind then defined.minus_value look here text [] else
        (defined.kind_value look here text kind written >>= λ total. defined.value_with look here text total []))
    by (Number number) written = refl
    by (Name name) written = kept (defined.known_value (look name))
    by Here written = refl
    by Text written = kept (defined.characters_value (defined.characters written))
    by (Sign operator) written = signed (defined.is_minus (Sign operator))

-- the value of one token is the text's, and so is its refusal
module _ (look : List ℕ → Option defined.Value) (here : defined.Value) (text : List ℕ) (some : 0 < length text) where
  pub value_is : (token : Token) → Ok token ≡ token_at text 0 → token.span.end ≡ length text
      → defined.term_value look here text token ≡ defined.expression look here text
  value_is token is end = alone look here text token ∙ sym (ap (λ (found : Result (List Token) ExprError). found >>= λ found.
      defined.value look here text found) (one_token text token some is end))

  pub refusal_is : (cause : ExprError) → Err cause ≡ token_at text 0 → Err cause ≡ defined.expression look here text
  refusal_is cause is = sym (ap (λ (found : Result (List Token) ExprError). found >>= λ found. defined.value look here text found)
      (no_token text cause some is))

-- what a call answers that wants no memory
pub yielded : (result : Result Value ExprError) (answer : Result defined.Value ExprError) → model_of_value_answer result ≡ answer
    → Yields model_of_value result answer
yielded (Ok value) answer is = sym is
yielded (Err BadToken) answer is = sym is
yielded (Err UnknownName) answer is = sym is
yielded (Err BadRelocation) answer is = sym is
yielded (Err DivideByZero) answer is = sym is
yielded (Err TooLarge) answer is = sym is
yielded (Err Memory) answer is = tt
