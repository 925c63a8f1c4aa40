use Rattle.sim_flow.proofs.Paths
use Rattle.sim_flow.proofs.pieces.test_branch.Goals as goal

pub returns : goal.returns
returns g c = Paths.piece c.requires (Paths.test_branch _ (Paths.is_view _ c.requires.machine)) c.run_piece.ensures
