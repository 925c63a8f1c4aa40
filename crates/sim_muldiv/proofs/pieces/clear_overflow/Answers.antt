use Rattle.sim_muldiv.proofs.Paths
use Rattle.sim_muldiv.proofs.pieces.clear_overflow.Goals as goal

pub returns : goal.returns
returns g c = Paths.piece c.requires (Paths.clear_overflow _) c.run_piece.ensures
