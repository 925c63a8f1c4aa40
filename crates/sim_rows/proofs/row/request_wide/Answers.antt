use Rattle.sim_view.proofs.Common.{piece}
use Rattle.sim_rows.proofs.Paths
use Rattle.sim_rows.proofs.row.request_wide.Goals as goal

pub returns : goal.returns
returns g c = piece c.requires (Paths.request_wide _) c.run_piece.ensures
