-- Tokens, one after the other.
use Rattle.std.proofs.Common.{◌≡◌, ℕ, zero, suc, ◌+◌, ◌-◌, ◌<◌, ◌≤◌, ◌⊎◌, inl, inr, Bool, true, false, cond, not, ◌&&◌, eqb, List, [], ◌∷◌, ◌++◌, length}
use Rattle.std.proofs.Common.{get_or, Some, None, Ok, Err, refl, sym, ap, subst, ◌∙◌, append_assoc, append-nil, arith}
use Rattle.std.specs.Prelude.{Option, Result, nat_lt, slice_range, map}
use Rattle.std.proofs.lemmas.Bool.{cases_lt, ltb-true}
use Rattle.std.proofs.lemmas.Bool.Decides.{nat_tests}
use Rattle.expression_defs.specs.declared.causes.ExprError.{ExprError}
use Rattle.expression_defs.specs.declared.causes.ExprError.TheVariants.{BadToken}
use Rattle.source_defs.specs.Refusals.{◌>>=◌}
use Rattle.source_defs.specs.Characters.{is_quote, is_digit, is_letter, upper_case}
use Rattle.source_defs.specs.Names.{is_letter_or_digit}
use Rattle.source_defs.specs.Numbers.{hexadecimal_number}
use Rattle.source_defs.specs.Fields.{in_quotes}
use Rattle.source_defs.specs.Least.{least_place}
use Rattle.expression_defs.specs.Tokens.{Kind, Name, Here, Text, Sign, Token, token_to, number_token, digits_end, hexadecimal_end, name_end, ends_text}
use Rattle.expression_defs.specs.Tokens.{text_end}
use Rattle.expression_defs.specs.Tokens.{decimal_token, hexadecimal_token, name_token, text_token, is_location_sign, is_operator, token_at, tokens, tokens_from}
use Rattle.expression_defs.specs.TokenLaw.{Follow}
use Rattle.source_defs.proofs.LeastLaws.{least_places_are_least, least_place-ge, least_place-le}

-- what is bound gives a value only where both parts do
pub bound_ok : {A B C : Type 0} (first : Result A C) (next : A → Result B C) (y : B) → (first >>= next) ≡ Ok y
    → (x : A) × ((first ≡ Ok x) × (next x ≡ Ok y))
bound_ok (Ok x) next y e = (x, (refl, e))
bound_ok (Err cause) next y e = cc

module _ (text : List ℕ) (at : ℕ) (lt : at < length text) where
  -- a token that begins at the place, and ends after it in the text
  pub record Goes (token : Token) : Type 0 where
    pub start : token.span.start ≡ at
    pub more : at < token.span.end
    pub within : token.span.end ≤ length text

  -- a run whose first byte belongs to it goes on
  past_first : (p : ℕ → Bool) → p at ≡ false → at < least_place p text at
  past_first p fails =
      let is = least_places_are_least p text at (omega arith) in
      by (cases_lt at (least_place p text at))
    where
      by : (at < least_place p text at) ⊎ (least_place p text at ≤ at) → at < least_place p text at
      by (inl less) = less
      by (inr le) =
          let is = least_places_are_least p text at (omega arith) in
          let ge = is.not_before_start in
          let same : least_place p text at ≡ at = omega arith in
          let passes : p (least_place p text at) ≡ true = is.passes (omega arith) in
          let both : true ≡ false = sym (rw same at passes) ∙ fails in
          (cc both)

  to_end : (kind : Kind) (end : ℕ) (token : Token) → at < end → end ≤ length text
      → token_to kind at end ≡ token → Goes token
  to_end kind end token more within e = subst Goes e (record { start = refl; more = more; within = within })

  ok_same : (x y : Token) → (let given : Result Token ExprError = Ok x in given ≡ Ok y) → x ≡ y
  ok_same x y e = cc

  number_goes : (end : ℕ) (value : Option ℕ) (token : Token) → at < end → end ≤ length text
      → number_token at end value ≡ Ok token → Goes token
  number_goes end (Some value) token more within e = to_end _ end token more within (ok_same _ _ e)
  number_goes end None token more within e = (cc e)

  decimal_goes : (token : Token) → is_digit (get_or text at 0) ≡ true → decimal_token text at ≡ Ok token → Goes token
  decimal_goes token is e =
      number_goes (digits_end text at) _ token (past_first _ (ap not is)) (least_place-le _ text at (omega arith)) e

  hexadecimal_goes : (b : Bool) (token : Token) → eqb (hexadecimal_end text (at + 1)) (at + 1) ≡ b
      → cond b (Err BadToken)
      (number_token at (hexadecimal_end text (at + 1)) (hexadecimal_number (slice_range text (at + 1) (hexadecimal_end text (at + 1))))) ≡ Ok token
      → Goes token
  hexadecimal_goes true token same e = (cc e)
  hexadecimal_goes false token same e =
      let ge = least_place-ge (λ k. not (Rattle.source_defs.specs.Numbers.is_hexadecimal_digit (get_or text k 0))) text (at + 1) in
      number_goes (hexadecimal_end text (at + 1)) _ token (omega arith) (least_place-le _ text (at + 1) (omega arith)) e

  name_goes : (b : Bool) (token : Token) → is_letter_or_digit (get_or text at 0) ≡ true
      → cond b (Ok (token_to (Name (map upper_case (slice_range text at (name_end text at)))) at (name_end text at))) (Err BadToken) ≡ Ok token
      → Goes token
  name_goes true token is e =
      to_end _ (name_end text at) token (past_first _ (ap not is)) (least_place-le _ text at (omega arith)) (ok_same _ _ e)
  name_goes false token is e = (cc e)

  text_goes : (b : Bool) (token : Token) → is_quote (get_or text at 0) ≡ true
      → cond b (Err BadToken) (Ok (token_to Text at (text_end text at))) ≡ Ok token → Goes token
  text_goes true token is e = (cc e)
  text_goes false token is e =
      let fails : ends_text text at at ≡ false = ap (λ b. not b && not (in_quotes text at at)) is in
      to_end _ (text_end text at) token (past_first (ends_text text at) fails)
      (least_place-le _ text at (omega arith)) (ok_same _ _ e)

  one_goes : (kind : Kind) (token : Token) → (let given : Result Token ExprError = Ok (token_to kind at (at + 1)) in given ≡ Ok token) → Goes token
  one_goes kind token e = to_end kind (at + 1) token (omega arith) (omega arith) (ok_same _ _ e)

  letter_or_digit : (a b : Bool) → a ≡ true → (Rattle.std.specs.Prelude.◌||◌ a b) ≡ true
  letter_or_digit true b h = refl
  letter_or_digit false b h = cc

  -- what each test of the first byte gives, by its answer
  abbrev operator_or : Bool → Result Token ExprError
  operator_or b = cond b (Ok (token_to (Sign (get_or text at 0)) at (at + 1))) (Err BadToken)

  abbrev location_or : Bool → Result Token ExprError
  location_or b = cond b (Ok (token_to Here at (at + 1))) (operator_or (is_operator (get_or text at 0)))

  abbrev quote_or : Bool → Result Token ExprError
  quote_or b = cond b (text_token text at) (location_or (is_location_sign (get_or text at 0)))

  abbrev letter_or : Bool → Result Token ExprError
  letter_or b = cond b (name_token text at) (quote_or (is_quote (get_or text at 0)))

  abbrev digit_or : Bool → Result Token ExprError
  digit_or b = cond b (decimal_token text at) (letter_or (is_letter (get_or text at 0)))

  abbrev hexadecimal_or : Bool → Result Token ExprError
  hexadecimal_or b = cond b (hexadecimal_token text at) (digit_or (is_digit (get_or text at 0)))

  by_operator : (b : Bool) (token : Token) → operator_or b ≡ Ok token → Goes token
  by_operator true token e = one_goes _ token e
  by_operator false token e = (cc e)

  by_location : (b : Bool) (token : Token) → location_or b ≡ Ok token → Goes token
  by_location true token e = one_goes _ token e
  by_location false token e = by_operator _ token e

  by_quote : (b : Bool) (token : Token) → is_quote (get_or text at 0) ≡ b → quote_or b ≡ Ok token → Goes token
  by_quote true token is e = text_goes _ token is e
  by_quote false token is e = by_location _ token e

  by_letter : (b : Bool) (token : Token) → is_letter (get_or text at 0) ≡ b → letter_or b ≡ Ok token → Goes token
  by_letter true token is e = name_goes _ token (letter_or_digit _ (is_digit (get_or text at 0)) is) e
  by_letter false token is e = by_quote _ token refl e

  by_digit : (b : Bool) (token : Token) → is_digit (get_or text at 0) ≡ b → digit_or b ≡ Ok token → Goes token
  by_digit true token is e = decimal_goes token is e
  by_digit false token is e = by_letter _ token refl e

  by_hexadecimal : (b : Bool) (token : Token) → hexadecimal_or b ≡ Ok token → Goes token
  by_hexadecimal true token e = hexadecimal_goes _ token refl e
  by_hexadecimal false token e = by_digit _ token refl e

  pub token_goes : (token : Token) → token_at text at ≡ Ok token → Goes token
  unfolding token_at
  token_goes token e = by_hexadecimal _ token e

list_same : (x y : List Token) → (let given : Result (List Token) ExprError = Ok x in given ≡ Ok y) → x ≡ y
list_same x y e = cc

-- the tokens from a place on, by whether bytes are left there
by_left : (b : Bool) (left : ℕ) (text : List ℕ) (at : ℕ) (found : List Token) → nat_lt at (length text) ≡ b
    → at ≤ length text → length text ≤ at + suc left
    → ((at' : ℕ) (found' : List Token) → at' ≤ length text → length text ≤ at' + left
    → tokens_from left text at' ≡ Ok found' → Follow text at' found')
    → cond b (token_at text at >>= (λ token. tokens_from left text token.span.end >>= (λ others. Ok (token ∷ others)))) (Ok []) ≡ Ok found
    → Follow text at found
by_left true left text at found test le enough again e =
    let lt : at < length text = ltb-true _ _ test in
    let first = bound_ok (token_at text at) _ found e in
    let goes = token_goes text at lt first.0 first.1.0 in
    let rest = bound_ok (tokens_from left text first.0.span.end) _ found first.1.1 in
    subst (Follow text at) (list_same (first.0 ∷ rest.0) found rest.1.1)
    (goes.start, goes.more, goes.within, again first.0.span.end rest.0 goes.within (omega arith) rest.1.0)
by_left false left text at found test le enough again e =
    let past : length text ≤ at = grind (arith, nat_tests) in
    subst (Follow text at) (list_same [] found e) (omega arith)

follow_from : (left : ℕ) (text : List ℕ) (at : ℕ) (found : List Token) → at ≤ length text → length text ≤ at + left
    → tokens_from left text at ≡ Ok found → Follow text at found
unfolding tokens_from
follow_from zero text at found le enough e = subst (Follow text at) (list_same [] found e) (omega arith)
follow_from (suc left) text at found le enough e =
    by_left _ left text at found refl le enough (λ at' found' le' enough' e'. follow_from left text at' found' le' enough' e') e

pub tokens_follow : (text : List ℕ) (found : List Token) → tokens text ≡ Ok found → Follow text 0 found
tokens_follow text found e = follow_from (length text) text 0 found (omega arith) (omega arith) e

-- the tokens of a part after those before it
abbrev pub after : List Token → Result (List Token) ExprError → Result (List Token) ExprError
after front rest = rest >>= (λ others. Ok (front ++ others))

pub after_none : (rest : Result (List Token) ExprError) → after [] rest ≡ rest
after_none (Ok others) = refl
after_none (Err cause) = refl

after_more : (front : List Token) (token : Token) (rest : Result (List Token) ExprError)
    → after front (rest >>= (λ others. Ok (token ∷ others))) ≡ after (front ++ token ∷ []) rest
after_more front token (Ok others) = ap Ok (sym (append_assoc front (token ∷ []) others))
after_more front token (Err cause) = refl

module _ (text : List ℕ) (at : ℕ) where
  -- a bad place
  pub tokens_bad : (left : ℕ) (front : List Token) (cause : ExprError) → at < length text → length text ≤ at + left
      → token_at text at ≡ Err cause → after front (tokens_from left text at) ≡ Err cause
  unfolding tokens_from
  tokens_bad zero front cause lt enough e = absurd (omega arith)
  tokens_bad (suc left) front cause lt enough e =
      let test : nat_lt at (length text) ≡ true = grind (arith, nat_tests) in rw (test, e) refl

  -- a token and those after it
  pub tokens_more : (left : ℕ) (front : List Token) (token : Token) → at < length text → length text ≤ at + left
      → token_at text at ≡ Ok token
      → after front (tokens_from left text at) ≡ after (front ++ token ∷ []) (tokens_from (left - 1) text token.span.end)
  unfolding tokens_from
  tokens_more zero front token lt enough e = absurd (omega arith)
  tokens_more (suc left) front token lt enough e =
      let test : nat_lt at (length text) ≡ true = grind (arith, nat_tests) in
      let one : suc left - 1 ≡ left = omega arith in
      rw (test, e, one) (after_more front token (tokens_from left text token.span.end))

  -- no token is left
  pub tokens_end : (left : ℕ) (front : List Token) → length text ≤ at → after front (tokens_from left text at) ≡ Ok front
  unfolding tokens_from
  tokens_end zero front past = ap Ok (append-nil front)
  tokens_end (suc left) front past =
      let test : nat_lt at (length text) ≡ false = grind (arith, nat_tests) in rw test (ap Ok (append-nil front))
