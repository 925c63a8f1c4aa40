use Rattle.sim_stack.proofs.Paths
use Rattle.sim_stack.proofs.pieces.read_call_target.Goals as goal

pub returns : goal.returns
returns g c = Paths.piece c.requires (Paths.read_call_target _ (Paths.is_view _ c.requires.machine)) c.run_piece.ensures
