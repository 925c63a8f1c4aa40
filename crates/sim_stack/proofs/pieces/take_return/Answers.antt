use Rattle.sim_stack.proofs.Paths
use Rattle.sim_stack.proofs.pieces.take_return.Goals as goal

pub returns : goal.returns
returns g c = Paths.piece c.requires (Paths.take_return _ (Paths.is_view _ c.requires.machine)) c.run_piece.ensures
