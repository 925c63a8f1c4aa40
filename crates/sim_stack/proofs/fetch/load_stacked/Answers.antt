use Rattle.sim_stack.proofs.Common.{CanLoad, exit_then, load, refl, shown}
use Rattle.sim_stack.proofs.fetch.load_stacked.Goals as goal

pub load_routine-requires-clause-visible : goal.load_routine-requires-clause-visible
load_routine-requires-clause-visible g c = shown CanLoad c.request_stacked.ensures c.requires.visible

pub returns : goal.returns
returns g c = exit_then load c.request_stacked.ensures refl c.load_routine.ensures
