-- The value of an expression.
--
-- Editor/Assembler manual, "Expressions": an optional minus sign and a term, then operators with terms, which are taken
-- from left to right without precedence.
-- Profile: the first refusal from the left is the expression's, and a term's own refusal is before the refusal of
-- joining it.
use Rattle.std.specs.Prelude.{ℕ, ◌+◌, ◌-◌, ◌*◌, ◌/◌, ◌%◌, ◌==◌, Bool, false, not, ◌&&◌, nat_le, if◌then◌else◌, List}
use Rattle.std.specs.Prelude.{[], ◌∷◌, length, slice_range, Option, Some, None, Result, Ok, Err}
use Rattle.expression_defs.specs.declared.causes.ExprError.{ExprError}
use Rattle.expression_defs.specs.declared.causes.ExprError.TheVariants.{BadToken, UnknownName, BadRelocation}
use Rattle.expression_defs.specs.declared.causes.ExprError.TheVariants.{DivideByZero}
use Rattle.source_defs.specs.Refusals.{◌>>=◌}
use Rattle.source_defs.specs.Characters.{is_quote}
use Rattle.source_defs.specs.Lines.{part}
use Rattle.expression_defs.specs.Tokens.{Kind, Number, Name, Here, Text, Sign, Token, tokens}

-- Editor/Assembler manual, "Expressions": a number; a place in relocatable code; or an external name, whose value the
-- linker knows.
pub data Value : Type 0 where
  Absolute : ℕ → Value
  Relocatable : ℕ → Value
  External : List ℕ → Value

-- Profile: a value that is not absolute is refused where an absolute one is needed.
abbrev pub absolute : Value → Result ℕ ExprError
absolute (Absolute number) = Ok number
absolute _ = Err BadRelocation

-- Profile: results keep 16 bits.
abbrev pub to_word : ℕ → ℕ
to_word number = number % 0x10000

-- the number with the other sign
abbrev pub negated : ℕ → ℕ
negated number = to_word (0x10000 - number)

-- a word as a signed number: whether it is below zero, and how far it is from zero
abbrev pub is_negative : ℕ → Bool
is_negative number = nat_le 0x8000 number

abbrev pub magnitude : ℕ → ℕ
magnitude number = if is_negative number then 0x10000 - number else number

-- Profile: division takes signed numbers toward zero.
abbrev pub quotient : ℕ → ℕ → ℕ
quotient a b =
    let whole = magnitude a / magnitude b in
    if is_negative a
    then (if is_negative b then whole else negated whole)
    else if is_negative b then negated whole else whole

-- Editor/Assembler manual, "Expressions": the sum of an absolute and a relocatable value is relocatable.
abbrev pub sum : Value → Value → Result Value ExprError
sum (Absolute a) (Absolute b) = Ok (Absolute (to_word (a + b)))
sum (Absolute a) (Relocatable b) = Ok (Relocatable (to_word (a + b)))
sum (Relocatable a) (Absolute b) = Ok (Relocatable (to_word (a + b)))
sum _ _ = Err BadRelocation

-- Editor/Assembler manual, "Expressions": a relocatable value less an absolute one is relocatable, and less a
-- relocatable one it is absolute.
abbrev pub difference : Value → Value → Result Value ExprError
difference (Absolute a) (Absolute b) = Ok (Absolute (to_word (a + 0x10000 - b)))
difference (Relocatable a) (Absolute b) = Ok (Relocatable (to_word (a + 0x10000 - b)))
difference (Relocatable a) (Relocatable b) = Ok (Absolute (to_word (a + 0x10000 - b)))
difference _ _ = Err BadRelocation

-- Editor/Assembler manual, "Expressions": both factors are absolute.
abbrev pub product : Value → Value → Result Value ExprError
product (Absolute a) (Absolute b) = Ok (Absolute (to_word (a * b)))
product _ _ = Err BadRelocation

-- Profile: a relocatable or an external value is no dividend, by 0 too.
abbrev pub ratio : Value → Value → Result Value ExprError
ratio (Absolute a) (Absolute b) = if b == 0 then Err DivideByZero else Ok (Absolute (quotient a b))
ratio _ _ = Err BadRelocation

-- two values, joined by an operator
abbrev pub joined : ℕ → Value → Value → Result Value ExprError
joined operator a b =
    if operator == 0x2B then sum a b
    else if operator == 0x2D then difference a b
    else if operator == 0x2A then product a b
    else ratio a b

-- Editor/Assembler manual, "Expressions": a value after a minus sign is absolute.
abbrev pub minus : Value → Result Value ExprError
minus (Absolute number) = Ok (Absolute (negated number))
minus _ = Err BadRelocation

-- Editor/Assembler manual, "Constants": the characters between the quotes of a text, in which two quotes are one.
abbrev pub characters_after : (quote_before : Bool) → List ℕ → List ℕ
characters_after quote [] = []
characters_after quote (byte ∷ bytes) =
    let others = characters_after (is_quote byte && not quote) bytes in
    if is_quote byte && quote then others else byte ∷ others

-- what is between the quotes of a text
abbrev pub between_quotes : List ℕ → List ℕ
between_quotes quoted = slice_range quoted 1 (length quoted - 1)

-- the characters of a quoted text
abbrev pub characters : List ℕ → List ℕ
characters quoted = characters_after false (between_quotes quoted)

-- Editor/Assembler manual, "Constants": one or two characters; one character is in the low byte.
abbrev pub characters_value : List ℕ → Result Value ExprError
characters_value (low ∷ []) = Ok (Absolute low)
characters_value (high ∷ low ∷ []) = Ok (Absolute (high * 256 + low))
characters_value _ = Err BadToken

-- Editor/Assembler manual, "Symbols": the value of a name, which must have one.
abbrev pub known_value : Option Value → Result Value ExprError
known_value (Some value) = Ok value
known_value None = Err UnknownName

-- the operator that a token is
abbrev pub operator_of : Kind → Result ℕ ExprError
operator_of (Sign operator) = Ok operator
operator_of _ = Err BadToken

-- whether a token is a minus sign
abbrev pub is_minus : Kind → Bool
is_minus (Sign operator) = operator == 0x2D
is_minus _ = false

-- by what each name stands for, what $ stands for, and the text that the tokens are of
module _ (look : List ℕ → Option Value) (here : Value) (text : List ℕ) where
  abbrev pub kind_value : Kind → List ℕ → Result Value ExprError
  kind_value (Number number) written = Ok (Absolute number)
  kind_value (Name name) written = known_value (look name)
  kind_value Here written = Ok here
  kind_value Text written = characters_value (characters written)
  kind_value (Sign operator) written = Err BadToken

  -- The value of a term. Profile: a token that is none is refused where it stands.
  abbrev pub term_value : Token → Result Value ExprError
  term_value token = kind_value token.kind (part text token.span)

  -- a value, then operators with terms
  abbrev pub value_with : Value → List Token → Result Value ExprError
  value_with total [] = Ok total
  value_with total (operator ∷ []) = Err BadToken
  value_with total (operator ∷ term ∷ others) = do
    by ← operator_of operator.kind
    next ← term_value term
    total ← joined by total next
    value_with total others

  -- a minus sign, and what comes after it
  abbrev pub minus_value : List Token → Result Value ExprError
  minus_value [] = Err BadToken
  minus_value (term ∷ others) = do
    first ← term_value term
    total ← minus first
    value_with total others

  -- The value of tokens. Profile: where there are none, a term is missing.
  abbrev pub value : List Token → Result Value ExprError
  value [] = Err BadToken
  value (term ∷ others) =
      if is_minus term.kind
      then minus_value others
      else (do
        total ← term_value term
        value_with total others)

-- the value of a text: its tokens first, then its terms
abbrev pub expression : (List ℕ → Option Value) → Value → List ℕ → Result Value ExprError
expression look here text = do
  found ← tokens text
  value look here text found
