use Rattle.sim_view.proofs.Common.{piece}
use Rattle.sim_rows.proofs.Paths
use Rattle.sim_rows.proofs.tail.store_result.Goals as goal

pub returns : goal.returns
returns g c = piece c.requires (Paths.store_result _) c.run_piece.ensures
