use Rattle.sim_alu.proofs.Paths
use Rattle.sim_alu.proofs.pieces.set_ones.Goals as goal

pub returns : goal.returns
returns g c = Paths.piece c.requires (Paths.set_ones _) c.run_piece.ensures
