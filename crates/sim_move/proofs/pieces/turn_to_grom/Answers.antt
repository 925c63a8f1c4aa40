use Rattle.sim_move.proofs.Paths
use Rattle.sim_move.proofs.pieces.turn_to_grom.Goals as goal

pub returns : goal.returns
returns g c = Paths.piece c.requires (Paths.turn_to_grom _) c.run_piece.ensures
