use Rattle.std.proofs.Common.{◌≡◌, ◌∙◌, ap, arith}
use Rattle.std.specs.Option.{unwrap_or}
use Rattle.std.proofs.lemmas.Result.{err_from_is_err_and}
use Rattle.std.proofs.Math.ListN.{drop_of_length-le}
use Rattle.link_defs.specs.Chains.{uses_of}
use Rattle.link_loader.specs.Holds.{value_or_0}
use Rattle.link_loader.proofs.Refusals.{refuses_same}
use Rattle.link_loader.proofs.Uses.{followed, not_followed}
use Rattle.link_loader.proofs.chains.follow.Goals as goal

pub returns-in_err-follow_chain : goal.returns-in_err-follow_chain
returns-in_err-follow_chain c defs loaded names words =
    let i = c.loop-reference.invariant defs loaded names words in
    let p = err_from_is_err_and c.from_residual-in_err-follow_chain.result c.from_residual-in_err-follow_chain.ensures.1 in
    let value : c.unwrap_or-value.result ≡ value_or_0 defs c.reference-item.result.0 =
    c.unwrap_or-value.ensures ∙ ap (λ found. unwrap_or found 0) (c.copied.ensures ∙ (c.get.ensures.value ∙ names c.reference-item.result.0)) in
    let e = c.in_err-follow_chain.ensures {u = tt} defs loaded c.reference-item.result.0 i.uses words value i.holds in
    rw (p.1, p.2) (refuses_same _ _ _ i.goes (not_followed loaded i.uses c.args.refs.now c.loop-reference.reference-index c.reference-item.result (omega arith) c.reference-item.is _ e))

pub loop-reference-preserved : goal.loop-reference-preserved
loop-reference-preserved c defs loaded names words =
    let i = c.loop-reference.invariant defs loaded names words in
    let value : c.unwrap_or-value.result ≡ value_or_0 defs c.reference-item.result.0 =
    c.unwrap_or-value.ensures ∙ ap (λ found. unwrap_or found 0) (c.copied.ensures ∙ (c.get.ensures.value ∙ names c.reference-item.result.0)) in
    let made = c.in_ok-follow_chain.ensures {u = tt} defs loaded c.reference-item.result.0 i.uses words value i.holds in
    record {
      uses = made.0;
      holds = made.2;
      goes = i.goes ∙ followed loaded i.uses c.args.refs.now c.loop-reference.reference-index c.reference-item.result (omega arith) c.reference-item.is made.0 made.1;
    }

pub returns : goal.returns
returns c defs loaded names words =
    let i = c.loop-reference.invariant defs loaded names words in
    (i.uses, i.goes ∙ ap (uses_of loaded i.uses) (drop_of_length-le c.args.refs.now c.loop-reference-test.false), i.holds)
