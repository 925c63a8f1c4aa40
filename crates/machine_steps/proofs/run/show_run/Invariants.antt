use Rattle.machine_steps.proofs.ShownRuns.{Showing}
use Rattle.machine_steps.proofs.run.show_run.Given as goal

-- a number of instructions were executed and shown
abbrev pub invariant-loop-made : goal.invariant-loop-made
invariant-loop-made g l =
    let state = g.O.Sink.state in
    Showing l.limit l.fn.machine l.machine l.made (state l.fn.out) (state l.out) l.seen
