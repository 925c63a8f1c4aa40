use Rattle.sim_stack.proofs.Paths
use Rattle.sim_stack.proofs.pieces.keep_next.Goals as goal

pub returns : goal.returns
returns g c = Paths.piece c.requires (Paths.keep_next _) c.run_piece.ensures
