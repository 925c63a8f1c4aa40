use Rattle.sim_move.proofs.Paths
use Rattle.sim_move.proofs.pieces.load_length.Goals as goal

pub returns : goal.returns
returns g c = Paths.piece c.requires (Paths.load_length _) c.run_piece.ensures
