use Rattle.sim_alu.proofs.Paths
use Rattle.sim_alu.proofs.pieces.negate.Goals as goal

pub returns : goal.returns
returns g c = Paths.piece c.requires (Paths.negate _) c.run_piece.ensures
