use Rattle.sim_move.proofs.Paths
use Rattle.sim_move.proofs.pieces.check_registers.Goals as goal

pub returns : goal.returns
returns g c = Paths.piece c.requires (Paths.check_registers _ (Paths.is_view _ c.requires.machine)) c.run_piece.ensures
