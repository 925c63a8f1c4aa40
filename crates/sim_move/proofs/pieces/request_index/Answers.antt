use Rattle.sim_move.proofs.Paths
use Rattle.sim_move.proofs.pieces.request_index.Goals as goal

pub returns : goal.returns
returns g c = Paths.piece c.requires (Paths.request_index _) c.run_piece.ensures
