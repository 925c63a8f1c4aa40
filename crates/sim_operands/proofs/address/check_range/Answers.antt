use Rattle.sim_view.proofs.Common.{piece}
use Rattle.sim_operands.proofs.Paths
use Rattle.sim_operands.proofs.address.check_range.Goals as goal

pub returns : goal.returns
returns g c = piece c.requires (Paths.range _) c.run_piece.ensures
