use Rattle.sim_view.proofs.Common.{piece}
use Rattle.sim_operands.proofs.Paths
use Rattle.sim_operands.proofs.store.store_value.Goals as goal

pub returns : goal.returns
returns g c = piece c.requires.is_at (Paths.store _ c.requires.visible) c.run_piece.ensures
