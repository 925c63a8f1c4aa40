-- The tokens of an expression.
--
-- Profile: the tokens of the whole expression are read first, from the left, and the first bad place is refused before
-- any term is valued. No blank is between tokens.
use Rattle.std.specs.Prelude.{
  ℕ,
  zero,
  suc,
  ◌+◌,
  ◌==◌,
  Bool,
  not,
  ◌&&◌,
  ◌||◌,
  nat_lt,
  if◌then◌else◌,
  List,
  [],
  ◌∷◌,
  length,
  slice_index,
  slice_range,
  map,
  Option,
  Some,
  None,
  Result,
  Ok,
  Err,
}
use Rattle.source_defs.specs.declared.text.Span.{Span}
use Rattle.expression_defs.specs.declared.causes.ExprError.{ExprError}
use Rattle.expression_defs.specs.declared.causes.ExprError.TheVariants.{BadToken, TooLarge}
use Rattle.source_defs.specs.Refusals.{◌>>=◌}
use Rattle.source_defs.specs.Characters.{is_quote, is_digit, is_letter, upper_case}
use Rattle.source_defs.specs.Least.{least_place, end_of}
use Rattle.source_defs.specs.Names.{is_letter_or_digit, is_name}
use Rattle.source_defs.specs.Numbers.{is_hexadecimal_digit, decimal_number, hexadecimal_number}
use Rattle.source_defs.specs.Fields.{in_quotes}

-- what a token is: a number, a name in upper case, the location of the line, a quoted text, or an operator
pub data Kind : Type 0 where
  Number : ℕ → Kind
  Name : List ℕ → Kind
  Here : Kind
  Text : Kind
  Sign : ℕ → Kind

-- a token and where it stands; a quoted text is there with its quotes
pub record Token : Type 0 where
  pub kind : Kind
  pub span : Span

-- from a place on, the first byte that is no digit, or the text's end
abbrev pub digits_end : List ℕ → ℕ → ℕ
digits_end text from = end_of is_digit text from

-- from a place on, the first byte that is no hexadecimal digit, or the text's end
abbrev pub hexadecimal_end : List ℕ → ℕ → ℕ
hexadecimal_end text from = end_of is_hexadecimal_digit text from

-- from a place on, the first byte that is no letter and no digit, or the text's end
abbrev pub name_end : List ℕ → ℕ → ℕ
name_end text from = end_of is_letter_or_digit text from

-- a byte that is no quote, outside the quotes of a text that starts at a place
abbrev pub ends_text : List ℕ → ℕ → ℕ → Bool
ends_text text start k = not (is_quote (slice_index text k)) && not (in_quotes text start k)

-- A quoted text goes up to a byte outside its quotes. Editor/Assembler manual, "Constants": two quotes inside it do not
-- end it. Profile: where the quotes are not closed it goes to the text's end.
abbrev pub text_end : List ℕ → ℕ → ℕ
text_end text start = least_place (ends_text text start) text start

-- a token that stands from a place up to another
abbrev pub token_to : Kind → ℕ → ℕ → Token
token_to kind start end = record { kind = kind; span = record { start = start; end = end } }

-- Profile: digits that are no number are too large.
abbrev pub number_token : ℕ → ℕ → Option ℕ → Result Token ExprError
number_token start end (Some value) = Ok (token_to (Number value) start end)
number_token start end None = Err TooLarge

-- Editor/Assembler manual, "Constants": the longest run of digits is a decimal number.
abbrev pub decimal_token : List ℕ → ℕ → Result Token ExprError
decimal_token text start =
    let end = digits_end text start in
    number_token start end (decimal_number (slice_range text start end))

-- Editor/Assembler manual, "Constants": the longest run of hexadecimal digits after the sign > is a number.
abbrev pub hexadecimal_token : List ℕ → ℕ → Result Token ExprError
hexadecimal_token text start =
    let end = hexadecimal_end text (start + 1) in
    if end == start + 1
    then Err BadToken
    else number_token start end (hexadecimal_number (slice_range text (start + 1) end))

-- Editor/Assembler manual, "Symbols": the longest run of letters and digits is a name, of at most six characters.
-- Profile: its letters are taken as upper case.
abbrev pub name_token : List ℕ → ℕ → Result Token ExprError
name_token text start =
    let end = name_end text start in
    let field = slice_range text start end in
    if is_name field then Ok (token_to (Name (map upper_case field)) start end) else Err BadToken

-- Profile: a quote that is not closed is a bad place.
abbrev pub text_token : List ℕ → ℕ → Result Token ExprError
text_token text start =
    let end = text_end text start in
    if in_quotes text start end then Err BadToken else Ok (token_to Text start end)

-- Editor/Assembler manual, "Constants": the sign > of a hexadecimal number.
abbrev pub is_hexadecimal_sign : ℕ → Bool
is_hexadecimal_sign byte = byte == 0x3E

-- Editor/Assembler manual, "Symbols": the sign $ is the location of the line.
abbrev pub is_location_sign : ℕ → Bool
is_location_sign byte = byte == 0x24

-- Editor/Assembler manual, "Expressions": the operators + - * and /.
abbrev pub is_operator : ℕ → Bool
is_operator byte = (byte == 0x2B) || (byte == 0x2D) || (byte == 0x2A) || (byte == 0x2F)

-- The token that starts at a place, by its first byte. Profile: a byte that starts none is a bad place.
unfoldable pub token_at : List ℕ → ℕ → Result Token ExprError
token_at text start =
    let byte = slice_index text start in
    if is_hexadecimal_sign byte then hexadecimal_token text start
    else if is_digit byte then decimal_token text start
    else if is_letter byte then name_token text start
    else if is_quote byte then text_token text start
    else if is_location_sign byte then Ok (token_to Here start (start + 1))
    else if is_operator byte then Ok (token_to (Sign byte) start (start + 1))
    else Err BadToken

-- the tokens from a place on, each after the other, where at most a given number of bytes are left
unfoldable pub tokens_from : ℕ → List ℕ → ℕ → Result (List Token) ExprError
tokens_from zero text start = Ok []
tokens_from (suc left) text start =
    if nat_lt start (length text)
    then (do
      token ← token_at text start
      others ← tokens_from left text token.span.end
      Ok (token ∷ others))
    else Ok []

-- the tokens of a text, or the refusal of its first bad place
abbrev pub tokens : List ℕ → Result (List Token) ExprError
tokens text = tokens_from (length text) text 0
