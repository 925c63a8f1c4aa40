use Rattle.sim_move.proofs.Paths
use Rattle.sim_move.proofs.pieces.keep_length.Goals as goal

pub returns : goal.returns
returns g c = Paths.piece c.requires (Paths.keep_length _) c.run_piece.ensures
