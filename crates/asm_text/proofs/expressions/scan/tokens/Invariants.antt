use Rattle.std.proofs.Common.{◌≡◌, ℕ, ◌+◌, ◌-◌, ◌≤◌, length}
use Rattle.std.specs.Prelude.{map}
use Rattle.expression_defs.specs.Tokens.{tokens_from, tokens}
use Rattle.expression_defs.proofs.TokenLaws.{after}
use Rattle.asm_text.specs.GivenTokens.{model_of_token}
use Rattle.asm_text.proofs.expressions.scan.tokens.Given as goal

-- the tokens so far, and those from the start of the next on
abbrev pub invariant-loop-start : goal.invariant-loop-start
invariant-loop-start l =
    (left : ℕ) × (length l.text ≤ l.start + left) × (l.start ≤ length l.text)
    × (after (map model_of_token l.found.items) (tokens_from left l.text l.start) ≡ tokens l.text)

abbrev pub decreases-loop-start : goal.decreases-loop-start
decreases-loop-start l = length l.text - l.start
