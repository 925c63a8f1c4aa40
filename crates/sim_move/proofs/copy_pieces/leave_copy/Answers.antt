use Rattle.sim_move.proofs.CopiedPaths
use Rattle.sim_move.proofs.copy_pieces.leave_copy.Goals as goal

pub returns : goal.returns
returns g c = CopiedPaths.piece c.requires (CopiedPaths.leave_copy _) c.run_piece.ensures
