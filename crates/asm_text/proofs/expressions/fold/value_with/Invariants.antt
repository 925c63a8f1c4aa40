use Rattle.std.proofs.Common.{◌≡◌, length}
use Rattle.std.specs.Prelude.{map}
use Rattle.expression_defs.specs.Expression.{value_with}
use Rattle.expression_defs.specs.Symbols.{look_up}
use Rattle.asm_text.specs.GivenTokens.{model_of_token, TokensLieInside}
use Rattle.asm_text.specs.GivenValues.{model_of_value}
use Rattle.asm_text.proofs.expressions.fold.value_with.Given as goal

-- the total so far, with what is left, has the value of the whole
abbrev pub invariant-loop-operator : goal.invariant-loop-operator
invariant-loop-operator l = record {
  inside : TokensLieInside l.line l.rest;
  same : value_with (look_up l.symbols) (model_of_value l.here) l.line (model_of_value l.total) (map model_of_token l.rest)
      ≡ value_with (look_up l.symbols) (model_of_value l.here) l.line (model_of_value l.fn.first) (map model_of_token l.fn.tokens);
}

abbrev pub decreases-loop-operator : goal.decreases-loop-operator
decreases-loop-operator l = length l.rest
