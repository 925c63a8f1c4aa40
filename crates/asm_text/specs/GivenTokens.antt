-- What `tokens` gives, in the terms of the definitions.
use Rattle.std.specs.Prelude.{ℕ, List, Result, Ok, Err}
use Rattle.std.specs.List.{AllByRecursion}
use Rattle.source_defs.specs.Lines.{IsInside}
use Rattle.expression_defs.specs.declared.causes.ExprError.{ExprError}
use Rattle.expression_defs.specs.Tokens as defined
use Rattle.asm_text.specs.declared.expressions.token.Token.{Token}
use Rattle.asm_text.specs.declared.expressions.token.TokenKind.{TokenKind}
use Rattle.asm_text.specs.declared.expressions.token.TokenKind.TheVariants.{Number, Name, Here, Text, Sign}

-- the kind of a token, with the name seen as its bytes
abbrev pub model_of_kind : TokenKind → defined.Kind
model_of_kind (Number number) = defined.Number number
model_of_kind (Name name) = defined.Name name
model_of_kind Here = defined.Here
model_of_kind Text = defined.Text
model_of_kind (Sign operator) = defined.Sign operator

abbrev pub model_of_token : Token → defined.Token
model_of_token token = record { kind = model_of_kind token.kind; span = token.span }

-- the definition's answer
abbrev pub model_of_token_answer : Result Token ExprError → Result defined.Token ExprError
model_of_token_answer (Ok token) = Ok (model_of_token token)
model_of_token_answer (Err cause) = Err cause

-- each token lies inside a line
abbrev pub TokensLieInside : List ℕ → List Token → Type 0
TokensLieInside line tokens = AllByRecursion (λ token. IsInside line token.span) tokens
