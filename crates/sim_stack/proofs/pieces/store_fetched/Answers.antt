use Rattle.sim_stack.proofs.Paths
use Rattle.sim_stack.proofs.pieces.store_fetched.Goals as goal

pub returns : goal.returns
returns g c = Paths.piece c.requires (Paths.store_fetched _) c.run_piece.ensures
