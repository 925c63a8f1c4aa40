use Rattle.sim_stack.proofs.Paths
use Rattle.sim_stack.proofs.pieces.store_next.Goals as goal

pub returns : goal.returns
returns g c = Paths.piece c.requires.is_at (Paths.store_next _ c.requires.visible) c.run_piece.ensures
