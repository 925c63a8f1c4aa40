use Rattle.sim_view.proofs.Common.{piece}
use Rattle.sim_rows.proofs.Paths
use Rattle.sim_rows.proofs.step.where_next.Goals as goal

pub returns : goal.returns
returns g c = piece c.requires (Paths.where_next _) c.run_piece.ensures
