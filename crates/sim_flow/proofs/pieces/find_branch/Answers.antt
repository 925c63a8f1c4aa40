use Rattle.sim_flow.proofs.Paths
use Rattle.sim_flow.proofs.pieces.find_branch.Goals as goal

pub returns : goal.returns
returns g c = Paths.piece c.requires (Paths.find_branch _) c.run_piece.ensures
