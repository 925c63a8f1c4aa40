use Rattle.sim_muldiv.proofs.Paths
use Rattle.sim_muldiv.proofs.pieces.divide_bytes.Goals as goal

pub returns : goal.returns
returns g c = Paths.piece c.requires.is_at (Paths.divide_bytes _ (Paths.is_view _ c.requires.is_at.machine) c.requires.fits) c.run_piece.ensures
