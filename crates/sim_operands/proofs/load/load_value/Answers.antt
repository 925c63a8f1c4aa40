use Rattle.sim_view.proofs.Common.{is_view, piece}
use Rattle.sim_operands.proofs.Paths
use Rattle.sim_operands.proofs.load.load_value.Goals as goal

pub returns : goal.returns
returns g c = piece c.requires.is_at (Paths.load _ (is_view _ c.requires.is_at.machine) c.requires.visible) c.run_piece.ensures
