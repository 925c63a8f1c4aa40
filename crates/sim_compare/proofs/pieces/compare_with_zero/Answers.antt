use Rattle.sim_compare.proofs.Paths
use Rattle.sim_compare.proofs.pieces.compare_with_zero.Goals as goal

pub returns : goal.returns
returns g c = Paths.piece c.requires (Paths.compare_with_zero _) c.run_piece.ensures
