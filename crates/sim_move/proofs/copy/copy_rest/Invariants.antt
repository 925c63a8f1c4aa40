use Rattle.sim_move.proofs.Turns.{Turns}
use Rattle.sim_move.proofs.copy.copy_rest.Given as goal

abbrev pub invariant-loop : goal.invariant-loop
invariant-loop g l = Turns l.counter l.fn.machine l.machine l.fn.steps l.steps
