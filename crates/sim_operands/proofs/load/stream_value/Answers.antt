use Rattle.sim_view.proofs.Common.{is_view, piece}
use Rattle.sim_operands.proofs.Paths
use Rattle.sim_operands.proofs.load.stream_value.Goals as goal

pub returns : goal.returns
returns g c = piece c.requires (Paths.stream _ (is_view _ c.requires.machine)) c.run_piece.ensures
