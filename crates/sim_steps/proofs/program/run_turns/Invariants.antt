use Rattle.sim_rows.proofs.Common.{shown_by}
use Rattle.sim_steps.proofs.TurnRuns.{Stepping}
use Rattle.sim_steps.proofs.program.run_turns.Given as goal

abbrev pub invariant-loop-made : goal.invariant-loop-made
invariant-loop-made g l = Stepping l.made (shown_by l.fn.machine.cpu.memory) l.fn.machine l.machine l.fn.steps l.steps
