use Rattle.sim_alu.proofs.Paths
use Rattle.sim_alu.proofs.pieces.store_status.Goals as goal

pub returns : goal.returns
returns g c = Paths.piece c.requires (Paths.store_status _) c.run_piece.ensures
