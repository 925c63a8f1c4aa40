use Rattle.sim_shift.proofs.Paths
use Rattle.sim_shift.proofs.pieces.request_arithmetic_count.Goals as goal

pub returns : goal.returns
returns g c = Paths.piece c.requires (Paths.request_arithmetic_count _) c.run_piece.ensures
