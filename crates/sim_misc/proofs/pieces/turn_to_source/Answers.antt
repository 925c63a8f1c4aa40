use Rattle.sim_misc.proofs.Paths
use Rattle.sim_misc.proofs.pieces.turn_to_source.Goals as goal

pub returns : goal.returns
returns g c = Paths.piece c.requires (Paths.turn_to_source _) c.run_piece.ensures
