use Rattle.sim_move.proofs.CopiedPaths
use Rattle.sim_move.proofs.copy_pieces.copy_cell_to_video.Goals as goal

pub returns : goal.returns
returns g c = CopiedPaths.piece c.requires.is_at (CopiedPaths.copy_cell_to_video _ c.requires.may_go) c.run_piece.ensures
