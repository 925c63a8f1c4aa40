use Rattle.sim_misc.proofs.Paths
use Rattle.sim_misc.proofs.pieces.set_border.Goals as goal

pub returns : goal.returns
returns g c = Paths.piece c.requires (Paths.set_border _) c.run_piece.ensures
