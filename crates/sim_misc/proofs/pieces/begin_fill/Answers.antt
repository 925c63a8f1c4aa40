use Rattle.sim_misc.proofs.Paths
use Rattle.sim_misc.proofs.pieces.begin_fill.Goals as goal

pub returns : goal.returns
returns g c = Paths.piece c.requires (Paths.begin_fill _) c.run_piece.ensures
