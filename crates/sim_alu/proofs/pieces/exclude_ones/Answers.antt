use Rattle.sim_alu.proofs.Paths
use Rattle.sim_alu.proofs.pieces.exclude_ones.Goals as goal

pub returns : goal.returns
returns g c = Paths.piece c.requires (Paths.exclude_ones _) c.run_piece.ensures
