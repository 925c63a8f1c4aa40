use Rattle.sim_jumps.proofs.Paths
use Rattle.sim_jumps.proofs.pieces.go_to.Goals as goal

pub returns : goal.returns
returns g c = Paths.piece c.requires (Paths.go_to _) c.run_piece.ensures
