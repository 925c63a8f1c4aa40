use Rattle.sim_alu.proofs.Paths
use Rattle.sim_alu.proofs.pieces.invert.Goals as goal

pub returns : goal.returns
returns g c = Paths.piece c.requires (Paths.invert _) c.run_piece.ensures
