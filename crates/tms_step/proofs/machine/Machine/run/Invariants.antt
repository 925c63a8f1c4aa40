use Rattle.std.proofs.Common.{◌≡◌, ◌+◌}
use Rattle.tms_step.proofs.RunEnds.{Going}
use Rattle.tms_step.proofs.machine.Machine.run.Given as goal

abbrev pub invariant-loop-made : goal.invariant-loop-made
invariant-loop-made g l = Going l.stop l.limit l._made l.fn.self l.self × (l.steps ≡ l.fn.steps + l._made)
