use Rattle.sim_misc.proofs.Paths
use Rattle.sim_misc.proofs.pieces.keep_destination.Goals as goal

pub returns : goal.returns
returns g c = Paths.piece c.requires (Paths.keep_destination _) c.run_piece.ensures
