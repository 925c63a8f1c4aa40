use Rattle.std.proofs.Common.{◌<◌, [], ◌∷◌, length, Err, ◌∙◌, rules}
use Rattle.expression_defs.specs.Symbols.{look_up}
use Rattle.asm_text.specs.GivenTokens.{model_of_token}
use Rattle.asm_text.specs.GivenValues.{model_of_value}
use Rattle.asm_text.proofs.Inside.{tokens_lie_inside}
use Rattle.asm_text.proofs.OneToken.{one_token, value_is, refusal_is, yielded}
use Rattle.asm_text.proofs.expressions.expression.expression_value.Goals as goal

pub returns-in-Err : goal.returns-in-Err
returns-in-Err c =
    let text = c.args.text.now in
    let some : 0 < length text = search rules in
    yielded (Err c.in-Err.error) _
    (refusal_is (look_up c.args.symbols.now) (model_of_value c.args.here) text some c.in-Err.error c.in-Err.ensures)

pub term_value-requires : goal.term_value-requires
term_value-requires c =
    let text = c.args.text.now in
    let some : 0 < length text = search rules in
    (tokens_lie_inside text (c.in-Ok.first ∷ [])
    (one_token text (model_of_token c.in-Ok.first) some c.in-Ok.ensures c.if-first-text.true)).0

pub returns-then-first-text : goal.returns-then-first-text
returns-then-first-text c =
    let text = c.args.text.now in
    let some : 0 < length text = search rules in
    yielded c.term_value.result _
    (c.term_value.ensures
    ∙ value_is (look_up c.args.symbols.now) (model_of_value c.args.here) text some (model_of_token c.in-Ok.first) c.in-Ok.ensures
    c.if-first-text.true)
