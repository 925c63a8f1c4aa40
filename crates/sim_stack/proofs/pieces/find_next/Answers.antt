use Rattle.sim_stack.proofs.Paths
use Rattle.sim_stack.proofs.pieces.find_next.Goals as goal

pub returns : goal.returns
returns g c = Paths.piece c.requires (Paths.find_next _) c.run_piece.ensures
