use Rattle.sim_compare.proofs.Paths
use Rattle.sim_compare.proofs.pieces.compare_greater_or_equal.Goals as goal

pub returns : goal.returns
returns g c = Paths.piece c.requires (Paths.compare_greater_or_equal _) c.run_piece.ensures
