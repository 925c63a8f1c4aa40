use Rattle.sim_view.proofs.Common.{piece}
use Rattle.sim_operands.proofs.Paths
use Rattle.sim_operands.proofs.fetch.fetch_byte.Goals as goal

pub returns : goal.returns
returns g c = piece c.requires (Paths.fetch _) c.run_piece.ensures
