use Rattle.sim_rows.proofs.Common.{state_at_dispatch, view}
use Rattle.sim_misc.proofs.Fills.{Filling}
use Rattle.sim_misc.proofs.screen.run_fill.Given as goal

abbrev pub invariant-loop : goal.invariant-loop
invariant-loop g l = Filling (state_at_dispatch (view l.fn.machine)) l.counter l.fn.machine l.machine l.fn.steps l.steps
