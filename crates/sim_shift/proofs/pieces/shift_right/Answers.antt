use Rattle.sim_shift.proofs.Paths
use Rattle.sim_shift.proofs.pieces.shift_right.Goals as goal

pub returns : goal.returns
returns g c = Paths.piece c.requires.is_at (Paths.shift_right _ c.requires.some c.requires.few) c.run_piece.ensures
