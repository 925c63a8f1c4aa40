use Rattle.sim_view.proofs.Common.{piece}
use Rattle.sim_operands.proofs.Paths
use Rattle.sim_operands.proofs.store.store_video.Goals as goal

pub returns : goal.returns
returns g c = piece c.requires (Paths.store_video _) c.run_piece.ensures
