use Rattle.sim_alu.proofs.Paths
use Rattle.sim_alu.proofs.pieces.make_absolute.Goals as goal

pub returns : goal.returns
returns g c = Paths.piece c.requires (Paths.make_absolute _) c.run_piece.ensures
