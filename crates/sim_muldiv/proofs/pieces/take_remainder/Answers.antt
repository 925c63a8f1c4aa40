use Rattle.sim_muldiv.proofs.Paths
use Rattle.sim_muldiv.proofs.pieces.take_remainder.Goals as goal

pub returns : goal.returns
returns g c = Paths.piece c.requires (Paths.take_remainder _) c.run_piece.ensures
