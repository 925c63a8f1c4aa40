use Rattle.sim_muldiv.proofs.Paths
use Rattle.sim_muldiv.proofs.pieces.store_last.Goals as goal

pub returns : goal.returns
returns g c = Paths.piece c.requires (Paths.store_last _) c.run_piece.ensures
