use Rattle.sim_compare.proofs.Paths
use Rattle.sim_compare.proofs.pieces.test_greater.Goals as goal

pub returns : goal.returns
returns g c = Paths.piece c.requires (Paths.test_greater _) c.run_piece.ensures
