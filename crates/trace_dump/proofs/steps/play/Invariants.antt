use Rattle.trace_dump.proofs.ShownPrograms.{Playing}
use Rattle.trace_dump.proofs.steps.play.Given as goal

-- a number of steps were made and shown
abbrev pub invariant-loop-made : goal.invariant-loop-made
invariant-loop-made g l =
    let state = g.O.Sink.state in
    Playing g.T.StepLine.shows l.fn.session l.session l.fn.steps l.steps l.made (state l.fn.out) (state l.out) l.seen
