use Rattle.sim_alu.proofs.Paths
use Rattle.sim_alu.proofs.pieces.clear.Goals as goal

pub returns : goal.returns
returns g c = Paths.piece c.requires (Paths.clear _) c.run_piece.ensures
