-- An expression whose names are known has the value that it has when more are known.
use Rattle.std.proofs.Common.{◌≡◌, ℕ, Bool, true, false, List, [], ◌∷◌, Some, None, Ok, Err, refl, ap, ◌∙◌}
use Rattle.std.specs.Prelude.{Option, Result, if◌then◌else◌}
use Rattle.source_defs.specs.Refusals.{◌>>=◌}
use Rattle.expression_defs.specs.Tokens.{Kind, Number, Name, Here, Text, Sign, Token, tokens}
use Rattle.expression_defs.specs.Expression.{Value, known_value, kind_value, term_value, operator_of, is_minus, joined, minus, value_with, minus_value, value}
use Rattle.expression_defs.specs.Expression.{expression}
use Rattle.expression_defs.specs.Growing.{is_unresolved, is_closed}

-- what one answers is what the other answers, unless more names may lift its refusal
abbrev pub Stays : {A E : Type 0} → (E → Bool) → Result A E → Result A E → Type 0
Stays lifts first second = is_closed lifts first ≡ true → second ≡ first

pub stays_same : {A E : Type 0} (lifts : E → Bool) (answer : Result A E) → Stays lifts answer answer
stays_same lifts answer closed = refl

pub stays_then : {A B E : Type 0} (lifts : E → Bool) (first second : Result A E) (make other : A → Result B E) → Stays lifts first second
    → ((value : A) → Stays lifts (make value) (other value)) → Stays lifts (first >>= make) (second >>= other)
stays_then lifts (Ok value) second make other same next closed = ap (λ answer. answer >>= other) (same refl) ∙ next value closed
stays_then lifts (Err cause) second make other same next closed = ap (λ answer. answer >>= other) (same closed)

stays_if : {A E : Type 0} (lifts : E → Bool) (b : Bool) (first second other another : Result A E) → Stays lifts first other → Stays lifts second another
    → Stays lifts (if b then first else second) (if b then other else another)
stays_if lifts true first second other another same next = same
stays_if lifts false first second other another same next = next

pub known_stays : (found more : Option Value) → ((value : Value) → found ≡ Some value → more ≡ Some value)
    → Stays is_unresolved (known_value found) (known_value more)
known_stays (Some value) more grows closed = ap known_value (grows value refl)
known_stays None more grows closed = cc closed

module _ (look more : List ℕ → Option Value) (grows : (name : List ℕ) (value : Value) → look name ≡ Some value → more name ≡ Some value) (here : Value) where
  module _ (text : List ℕ) where
    kind_stays : (kind : Kind) (written : List ℕ) → Stays is_unresolved (kind_value look here text kind written) (kind_value more here text kind written)
    kind_stays (Number number) written closed = refl
    kind_stays (Name name) written closed = known_stays (look name) (more name) (grows name) closed
    kind_stays Here written closed = refl
    kind_stays Text written closed = refl
    kind_stays (Sign operator) written closed = refl

    term_stays : (token : Token) → Stays is_unresolved (term_value look here text token) (term_value more here text token)
    term_stays token = kind_stays token.kind _

    with_stays : (total : Value) (found : List Token) → Stays is_unresolved (value_with look here text total found) (value_with more here text total found)
    with_stays total [] = stays_same is_unresolved _
    with_stays total (operator ∷ []) = stays_same is_unresolved _
    with_stays total (operator ∷ term ∷ others) =
        stays_then is_unresolved (operator_of operator.kind) (operator_of operator.kind) _ _ (stays_same is_unresolved (operator_of operator.kind))
        (λ by.
        stays_then is_unresolved (term_value look here text term) (term_value more here text term) _ _ (term_stays term)
        (λ next. stays_then is_unresolved (joined by total next) (joined by total next) _ _ (stays_same is_unresolved (joined by total next)) (λ total. with_stays total others)))

    minus_stays : (found : List Token) → Stays is_unresolved (minus_value look here text found) (minus_value more here text found)
    minus_stays [] = stays_same is_unresolved _
    minus_stays (term ∷ others) =
        stays_then is_unresolved (term_value look here text term) (term_value more here text term) _ _ (term_stays term)
        (λ first. stays_then is_unresolved (minus first) (minus first) _ _ (stays_same is_unresolved (minus first)) (λ total. with_stays total others))

    value_stays : (found : List Token) → Stays is_unresolved (value look here text found) (value more here text found)
    value_stays [] = stays_same is_unresolved _
    value_stays (term ∷ others) =
        stays_if is_unresolved (is_minus term.kind) _ _ _ _ (minus_stays others)
        (stays_then is_unresolved (term_value look here text term) (term_value more here text term) _ _ (term_stays term) (λ total. with_stays total others))

  pub expression_stays : (text : List ℕ) → Stays is_unresolved (expression look here text) (expression more here text)
  expression_stays text =
      stays_then is_unresolved (tokens text) (tokens text) _ _ (stays_same is_unresolved (tokens text)) (λ found. value_stays text found)
