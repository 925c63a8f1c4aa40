use Rattle.sim_muldiv.proofs.Paths
use Rattle.sim_muldiv.proofs.pieces.multiply.Goals as goal

pub returns : goal.returns
returns g c = Paths.piece c.requires (Paths.multiply _) c.run_piece.ensures
