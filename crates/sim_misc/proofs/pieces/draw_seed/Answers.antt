use Rattle.sim_misc.proofs.Paths
use Rattle.sim_misc.proofs.pieces.draw_seed.Goals as goal

pub returns : goal.returns
returns g c = Paths.piece c.requires (Paths.draw_seed _ (Paths.is_view _ c.requires.machine)) c.run_piece.ensures
