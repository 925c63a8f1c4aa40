use Rattle.sim_stack.proofs.Paths
use Rattle.sim_stack.proofs.pieces.request_stacked.Goals as goal

pub returns : goal.returns
returns g c = Paths.piece c.requires (Paths.request_stacked _) c.run_piece.ensures
