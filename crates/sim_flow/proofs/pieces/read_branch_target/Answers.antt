use Rattle.sim_flow.proofs.Paths
use Rattle.sim_flow.proofs.pieces.read_branch_target.Goals as goal

pub returns : goal.returns
returns g c = Paths.piece c.requires (Paths.read_branch_target _ (Paths.is_view _ c.requires.machine)) c.run_piece.ensures
