use Rattle.sim_compare.proofs.Paths
use Rattle.sim_compare.proofs.pieces.compare_ones.Goals as goal

pub returns : goal.returns
returns g c = Paths.piece c.requires (Paths.compare_ones _) c.run_piece.ensures
