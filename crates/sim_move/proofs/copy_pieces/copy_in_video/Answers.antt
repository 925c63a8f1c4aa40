use Rattle.sim_move.proofs.CopiedPaths
use Rattle.sim_move.proofs.copy_pieces.copy_in_video.Goals as goal

pub returns : goal.returns
returns g c = CopiedPaths.piece c.requires (CopiedPaths.copy_in_video _) c.run_piece.ensures
