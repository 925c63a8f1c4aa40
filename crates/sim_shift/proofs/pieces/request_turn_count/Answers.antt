use Rattle.sim_shift.proofs.Paths
use Rattle.sim_shift.proofs.pieces.request_turn_count.Goals as goal

pub returns : goal.returns
returns g c = Paths.piece c.requires (Paths.request_turn_count _) c.run_piece.ensures
