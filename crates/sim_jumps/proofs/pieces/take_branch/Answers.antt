use Rattle.sim_jumps.proofs.Paths
use Rattle.sim_jumps.proofs.pieces.take_branch.Goals as goal

pub returns : goal.returns
returns g c = Paths.piece c.requires (Paths.take_branch _) c.run_piece.ensures
