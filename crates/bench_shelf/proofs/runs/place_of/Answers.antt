use Rattle.std.proofs.Common.{◌≡◌, ◌+◌, None, ◌∙◌, arith}
use Rattle.bench_shelf.proofs.RunLaws.{at_here, at_after}
use Rattle.bench_shelf.proofs.runs.place_of.Goals as goal

pub returns-then-left-run : goal.returns-then-left-run
returns-then-left-run c =
    let run = c.run-item.result in
    let line : c.saturating_add.result ≡ run.line + c.loop-run.left = omega (arith, c.saturating_add.ensures, run.within, c.if-left-run.true) in
    at_here (record { file = None; line = c.args.number }) c.args.runs.now c.loop-run.run-index c.loop-run.left _ run c.loop-run-test.true c.run-item.is
    c.if-left-run.true line ∙ c.loop-run.invariant

pub loop-run-preserved : goal.loop-run-preserved
loop-run-preserved c =
    at_after (record { file = None; line = c.args.number }) c.args.runs.now c.loop-run.run-index c.loop-run.left c.run-item.result c.loop-run-test.true
    c.run-item.is c.if-left-run.false ∙ c.loop-run.invariant
