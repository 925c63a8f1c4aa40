use Rattle.sim_move.proofs.CopiedPaths
use Rattle.sim_move.proofs.copy_pieces.set_target.Goals as goal

pub returns : goal.returns
returns g c = CopiedPaths.piece c.requires (CopiedPaths.set_target _) c.run_piece.ensures
