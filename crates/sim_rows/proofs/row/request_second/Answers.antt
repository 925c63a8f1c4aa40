use Rattle.sim_view.proofs.Common.{piece}
use Rattle.sim_rows.proofs.Paths
use Rattle.sim_rows.proofs.row.request_second.Goals as goal

pub returns : goal.returns
returns g c = piece c.requires (Paths.request_second _) c.run_piece.ensures
