use Rattle.sim_view.proofs.Common.{piece}
use Rattle.sim_rows.proofs.Paths
use Rattle.sim_rows.proofs.row.load_wide.Goals as goal

pub returns : goal.returns
returns g c = piece c.requires (Paths.load_wide _) c.run_piece.ensures
