use Rattle.sim_jumps.proofs.Paths
use Rattle.sim_jumps.proofs.pieces.resume.Goals as goal

pub returns : goal.returns
returns g c = Paths.piece c.requires (Paths.resume _) c.run_piece.ensures
