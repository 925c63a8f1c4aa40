use Rattle.sim_rows.proofs.Common.{piece}
use Rattle.sim_steps.proofs.Paths
use Rattle.sim_steps.proofs.start.stop_code.Goals as goal

pub returns : goal.returns
returns g c = piece c.requires (Paths.stop_code _) c.run_piece.ensures
