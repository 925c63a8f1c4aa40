use Rattle.sim_jumps.proofs.Jumps
use Rattle.sim_jumps.proofs.ending.jump.Goals as goal

pub returns : goal.returns
returns g c = Jumps.goes c.requires c.go_to.ensures
