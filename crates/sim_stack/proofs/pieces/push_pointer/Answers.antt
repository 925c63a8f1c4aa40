use Rattle.sim_stack.proofs.Paths
use Rattle.sim_stack.proofs.pieces.push_pointer.Goals as goal

pub returns : goal.returns
returns g c = Paths.piece c.requires (Paths.push_pointer _) c.run_piece.ensures
