use Rattle.sim_rows.proofs.Common.{piece}
use Rattle.sim_steps.proofs.Paths
use Rattle.sim_steps.proofs.start.boot.Goals as goal

pub returns : goal.returns
returns g c = piece c.requires (Paths.boot _) c.run_piece.ensures
