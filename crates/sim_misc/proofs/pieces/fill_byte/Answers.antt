use Rattle.sim_misc.proofs.Paths
use Rattle.sim_misc.proofs.pieces.fill_byte.Goals as goal

pub returns : goal.returns
returns g c = Paths.piece c.requires (Paths.fill_byte _) c.run_piece.ensures
