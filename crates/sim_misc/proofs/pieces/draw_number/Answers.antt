use Rattle.sim_misc.proofs.Paths
use Rattle.sim_misc.proofs.pieces.draw_number.Goals as goal

pub returns : goal.returns
returns g c = Paths.piece c.requires (Paths.draw_number _ (Paths.is_view _ c.requires.machine)) c.run_piece.ensures
