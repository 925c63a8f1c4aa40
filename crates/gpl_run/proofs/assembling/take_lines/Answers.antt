use Rattle.std.proofs.Common.{[], ◌++◌, ◌+◌, drop, map, arith, subst, ◌≡◌}
use Rattle.std.proofs.lemmas.List.{drop_more, drop_all}
use Rattle.gpl_run.specs.Feeding.{HasLeft}
use Rattle.gpl_run.proofs.assembling.take_lines.Goals as goal

pub take_line-requires : goal.take_line-requires
take_line-requires c =
    let lines = c.args.lines.now in
    let i = c.loop-line.line-index in
    let rest = c.requires.0 in (
      map (λ line. line.now) (drop (i + 1) lines) ++ rest,
      subst (λ left. HasLeft (map (λ line. line.now) left ++ rest) c.loop-line.builder) (drop_more lines i _ c.loop-line-test.true)
          (c.loop-line.invariant rest c.requires.1),
    )

pub loop-line-preserved : goal.loop-line-preserved
loop-line-preserved c rest has =
    let lines = c.args.lines.now in
    let i = c.loop-line.line-index in
    c.in_ok-take_line.ensures {u = tt} (map (λ line. line.now) (drop (i + 1) lines) ++ rest)
    (subst (λ left. HasLeft (map (λ line. line.now) left ++ rest) c.loop-line.builder) (drop_more lines i _ c.loop-line-test.true)
    (c.loop-line.invariant rest has))

pub returns : goal.returns
returns c rest has =
    let lines = c.args.lines.now in
    let none : drop c.loop-line.line-index lines ≡ [] = drop_all c.loop-line.line-index lines (omega (arith, c.loop-line-test.false)) in
    subst (λ left. HasLeft (map (λ line. line.now) left ++ rest) c.loop-line.builder) none (c.loop-line.invariant rest has)
