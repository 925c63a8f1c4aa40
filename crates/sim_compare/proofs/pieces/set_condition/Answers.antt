use Rattle.sim_compare.proofs.Paths
use Rattle.sim_compare.proofs.pieces.set_condition.Goals as goal

pub returns : goal.returns
returns g c = Paths.piece c.requires (Paths.set_condition _) c.run_piece.ensures
