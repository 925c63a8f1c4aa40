-- The tokens of a line lie inside it.
use Rattle.std.proofs.Common.{◌≡◌, ℕ, ◌<◌, ◌≤◌, List, [], ◌∷◌, length, Ok, arith}
use Rattle.std.specs.Prelude.{map}
use Rattle.expression_defs.specs.Tokens.{tokens}
use Rattle.expression_defs.specs.TokenLaw.{Follow}
use Rattle.expression_defs.proofs.TokenLaws.{tokens_follow}
use Rattle.asm_text.specs.declared.expressions.token.Token.{Token}
use Rattle.asm_text.specs.GivenTokens.{model_of_token, TokensLieInside}

inside_from : (line : List ℕ) (from : ℕ) (found : List Token) → Follow line from (map model_of_token found) → TokensLieInside line found
inside_from line from [] follow = tt
inside_from line from (token ∷ others) follow =
    let start : token.span.start ≡ from = follow.0 in
    let more : from < token.span.end = follow.1 in
    let within : token.span.end ≤ length line = follow.2 in
    (record { in_order = omega arith; in_text = within }, inside_from line token.span.end others follow.3)

pub tokens_lie_inside : (line : List ℕ) (found : List Token) → tokens line ≡ Ok (map model_of_token found) → TokensLieInside line found
tokens_lie_inside line found e = inside_from line 0 found (tokens_follow line (map model_of_token found) e)
