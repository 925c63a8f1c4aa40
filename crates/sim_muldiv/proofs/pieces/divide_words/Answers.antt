use Rattle.sim_muldiv.proofs.Paths
use Rattle.sim_muldiv.proofs.pieces.divide_words.Goals as goal

pub returns : goal.returns
returns g c = Paths.piece c.requires.is_at (Paths.divide_words _ c.requires.fits) c.run_piece.ensures
