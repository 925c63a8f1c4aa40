use Rattle.sim_move.proofs.CopiedPaths
use Rattle.sim_move.proofs.copy_pieces.count_byte.Goals as goal

pub returns : goal.returns
returns g c = CopiedPaths.piece c.requires (CopiedPaths.count_byte _) c.run_piece.ensures
