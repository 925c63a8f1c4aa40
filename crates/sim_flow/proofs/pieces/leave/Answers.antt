use Rattle.sim_flow.proofs.Paths
use Rattle.sim_flow.proofs.pieces.leave.Goals as goal

pub returns : goal.returns
returns g c = Paths.piece c.requires (Paths.leave _) c.run_piece.ensures
