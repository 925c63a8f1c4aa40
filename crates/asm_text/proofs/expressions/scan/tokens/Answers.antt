use Rattle.std.proofs.Common.{◌≡◌, ◌<◌, ◌≤◌, ◌+◌, ◌-◌, ◌++◌, ◌∷◌, [], true, not, length, sym, ap, ◌∙◌, arith}
use Rattle.std.specs.Prelude.{map}
use Rattle.std.specs.Result.{is_ok}
use Rattle.std.proofs.lemmas.List.{map-append}
use Rattle.std.proofs.lemmas.Result.{err_from_is_err_and}
use Rattle.expression_defs.specs.Tokens.{tokens}
use Rattle.expression_defs.proofs.TokenLaws.{token_goes, after_none, tokens_bad, tokens_more, tokens_end, tokens_follow}
use Rattle.asm_text.specs.GivenTokens.{model_of_token}
use Rattle.asm_text.proofs.expressions.scan.tokens.Goals as goal

pub loop-start-init : goal.loop-start-init
loop-start-init c =
    (length c.args.text.now, omega arith, omega arith, rw c.new-found.ensures.items (after_none (tokens c.args.text.now)))

pub returns-in_err-token-clause-cause : goal.returns-in_err-token-clause-cause
returns-in_err-token-clause-cause c =
    let i = c.loop-start.invariant in
    let p = err_from_is_err_and c.from_residual.result c.from_residual.ensures.1 in
    let bad =
    tokens_bad c.args.text.now c.loop-start.start i.0 (map model_of_token c.loop-start.found.items) c.in_err-token.field-0.0
    c.loop-start-test.true i.1 (sym c.in_err-token.ensures) in
    rw (p.1, p.2) (λ _. sym i.3 ∙ bad)

pub loop-start-smaller : goal.loop-start-smaller
loop-start-smaller c =
    let goes =
    token_goes c.args.text.now c.loop-start.start c.loop-start-test.true (model_of_token c.in_ok-token.token)
    (sym c.in_ok-token.ensures) in
    let more : c.loop-start.start < c.in_ok-token.token.span.end = goes.more in
    let lt : c.loop-start.start < length c.args.text.now = c.loop-start-test.true in
    omega (arith, more, lt)

pub loop-start-preserved : goal.loop-start-preserved
loop-start-preserved c =
    let i = c.loop-start.invariant in
    let text = c.args.text.now in
    let start = c.loop-start.start in
    let token = c.in_ok-token.token in
    let front = map model_of_token c.loop-start.found.items in
    let goes = token_goes text start c.loop-start-test.true (model_of_token token) (sym c.in_ok-token.ensures) in
    let more : start < token.span.end = goes.more in
    let enough : length text ≤ start + i.0 = i.1 in
    let ok : is_ok c.extend_from_slice.result ≡ true = c.is_err.ensures.negation ∙ ap not c.if-is_err.false in
    let kept : c.extend_from_slice.new.self.items ≡ c.loop-start.found.items ++ token ∷ [] =
    rw ok at c.extend_from_slice.ensures.items in
    let longer : map model_of_token c.extend_from_slice.new.self.items ≡ front ++ model_of_token token ∷ [] =
    ap (map model_of_token) kept ∙ map-append model_of_token c.loop-start.found.items (token ∷ []) in
    let step =
    tokens_more text start i.0 front (model_of_token token) c.loop-start-test.true enough (sym c.in_ok-token.ensures) in
    (i.0 - 1, omega arith, goes.within, rw longer (sym step ∙ i.3))

pub returns-clause-found : goal.returns-clause-found
returns-clause-found c =
    let i = c.loop-start.invariant in
    sym i.3 ∙ tokens_end c.args.text.now c.loop-start.start i.0 (map model_of_token c.loop-start.found.items) c.loop-start-test.false

pub returns-clause-order : goal.returns-clause-order
returns-clause-order c =
    let i = c.loop-start.invariant in
    tokens_follow c.args.text.now (map model_of_token c.loop-start.found.items)
    (sym i.3 ∙ tokens_end c.args.text.now c.loop-start.start i.0 (map model_of_token c.loop-start.found.items) c.loop-start-test.false)
