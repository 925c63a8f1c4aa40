use Rattle.sim_muldiv.proofs.Paths
use Rattle.sim_muldiv.proofs.pieces.low_product.Goals as goal

pub returns : goal.returns
returns g c = Paths.piece c.requires (Paths.low_product _) c.run_piece.ensures
