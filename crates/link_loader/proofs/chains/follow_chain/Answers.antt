use Rattle.std.proofs.Common.{◌≡◌, ◌+◌, ◌-◌, ◌∙◌, ap, arith}
use Rattle.std.proofs.lemmas.Result.{err_from_is_err_and}
use Rattle.link_defs.specs.Chains.{uses_from}
use Rattle.link_loader.proofs.Refusals.{refuses_same}
use Rattle.link_loader.proofs.Uses.{use_put, not_used, ends, ends_at_last, goes_on, is_refused}
use Rattle.link_loader.proofs.chains.follow_chain.Goals as goal

pub returns-then-place-eq0 : goal.returns-then-place-eq0
returns-then-place-eq0 c defs loaded name before words value kept =
    let i = c.loop.invariant defs loaded name before words value kept in
    let zero_place : c.loop.place ≡ 0 = grind (arith, c.if-place-eq0.true) in
    (i.uses, i.goes ∙ (ap (uses_from (65536 - c.loop.counter) loaded name i.uses) zero_place ∙ ends loaded name i.uses (65536 - c.loop.counter)), i.holds)

pub returns : goal.returns
returns c defs loaded name before words value kept =
    let i = c.loop.invariant defs loaded name before words value kept in
    (i.uses, i.goes ∙ ends_at_last loaded name i.uses _ c.loop.place (omega arith), i.holds)

pub loop-preserved : goal.loop-preserved
loop-preserved c defs loaded name before words value kept =
    let i = c.loop.invariant defs loaded name before words value kept in
    let next = c.in_ok-next.ensures {u = tt} defs loaded i.uses words i.holds in
    record {
      uses = _;
      holds = use_put defs name c.loop.uses c.put.new.self i.uses c.loop.place c.args.value i.holds (not_used loaded i.uses c.loop.place c.in_ok-next.next next) value c.put.ensures;
      goes = i.goes ∙ goes_on loaded name i.uses _ _ c.loop.place c.in_ok-next.next (omega arith) c.if-place-eq0.false next;
    }

pub returns-in_err-next : goal.returns-in_err-next
returns-in_err-next c defs loaded name before words value kept =
    let i = c.loop.invariant defs loaded name before words value kept in
    let p = err_from_is_err_and c.from_residual.result c.from_residual.ensures.1 in
    let e = c.in_err-next.ensures {u = tt} defs loaded i.uses words i.holds in
    rw (p.1, p.2) (refuses_same _ _ _ i.goes (is_refused loaded name i.uses _ (65536 - c.loop.counter) (65536 - (c.loop.counter + 1)) c.loop.place (omega arith) c.if-place-eq0.false e))
