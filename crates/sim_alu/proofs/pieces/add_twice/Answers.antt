use Rattle.sim_alu.proofs.Paths
use Rattle.sim_alu.proofs.pieces.add_twice.Goals as goal

pub returns : goal.returns
returns g c = Paths.piece c.requires (Paths.add_twice _) c.run_piece.ensures
