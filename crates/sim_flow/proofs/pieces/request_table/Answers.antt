use Rattle.sim_flow.proofs.Paths
use Rattle.sim_flow.proofs.pieces.request_table.Goals as goal

pub returns : goal.returns
returns g c = Paths.piece c.requires (Paths.request_table _) c.run_piece.ensures
