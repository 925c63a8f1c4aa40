use Rattle.sim_alu.proofs.Paths
use Rattle.sim_alu.proofs.pieces.take_source.Goals as goal

pub returns : goal.returns
returns g c = Paths.piece c.requires (Paths.take_source _) c.run_piece.ensures
