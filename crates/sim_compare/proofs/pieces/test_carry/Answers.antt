use Rattle.sim_compare.proofs.Paths
use Rattle.sim_compare.proofs.pieces.test_carry.Goals as goal

pub returns : goal.returns
returns g c = Paths.piece c.requires (Paths.test_carry _) c.run_piece.ensures
