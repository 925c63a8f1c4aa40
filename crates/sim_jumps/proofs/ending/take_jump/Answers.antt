use Rattle.sim_jumps.proofs.Jumps
use Rattle.sim_jumps.proofs.ending.take_jump.Goals as goal

pub returns : goal.returns
returns g c = Jumps.takes c.take_branch.ensures c.jump.ensures
