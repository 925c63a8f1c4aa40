use Rattle.sim_view.proofs.Common.{piece}
use Rattle.sim_operands.proofs.Paths
use Rattle.sim_operands.proofs.address.check_short.Goals as goal

pub returns : goal.returns
returns g c = piece c.requires (Paths.short_range _) c.run_piece.ensures
