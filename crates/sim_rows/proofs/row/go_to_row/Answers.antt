use Rattle.sim_view.proofs.Common.{piece}
use Rattle.sim_rows.proofs.Paths
use Rattle.sim_rows.proofs.row.go_to_row.Goals as goal

pub returns : goal.returns
returns g c = piece c.requires.is_at (Paths.go_to_row _ c.requires.low c.requires.high) c.run_piece.ensures
