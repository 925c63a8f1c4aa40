use Rattle.sim_muldiv.proofs.Paths
use Rattle.sim_muldiv.proofs.pieces.compare_divisor.Goals as goal

pub returns : goal.returns
returns g c = Paths.piece c.requires (Paths.compare_divisor _) c.run_piece.ensures
