-- Where the tokens of a text stand.
use Rattle.std.specs.Prelude.{◌≡◌, ℕ, ◌<◌, ◌≤◌, List, [], ◌∷◌, length}
use Rattle.expression_defs.specs.Tokens.{Token}

-- each token begins where the one before it ends, the first at a place, and the last ends where the text does
abbrev pub Follow : List ℕ → ℕ → List Token → Type 0
Follow text from [] = from ≡ length text
Follow text from (token ∷ others) =
    (token.span.start ≡ from) × (from < token.span.end) × (token.span.end ≤ length text)
    × Follow text token.span.end others
