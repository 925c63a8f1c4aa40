use Rattle.sim_move.proofs.Common.{exit_then, load, refl}
use Rattle.sim_move.proofs.length.load_count.Goals as goal

pub returns : goal.returns
returns g c = exit_then load c.load_length.ensures refl c.load_routine.ensures
