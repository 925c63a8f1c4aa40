use Rattle.sim_steps.proofs.FirstState as starting
use Rattle.sim_steps.proofs.laws.machines_start.Goals as goal

pub returns : goal.returns
returns g = starting.machines_start
