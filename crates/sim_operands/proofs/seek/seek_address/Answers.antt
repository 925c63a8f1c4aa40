use Rattle.sim_view.proofs.Common.{piece}
use Rattle.sim_operands.proofs.Paths
use Rattle.sim_operands.proofs.seek.seek_address.Goals as goal

pub returns : goal.returns
returns g c = piece c.requires (Paths.seek _) c.run_piece.ensures
