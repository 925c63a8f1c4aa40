use Rattle.std.proofs.Common.{refl}
use Rattle.sim_rows.proofs.sim_view.Routines.{exit_then}
use Rattle.sim_rows.specs.sim_operands.Routines.{check_index}
use Rattle.sim_rows.specs.sim_operands.Pieces as subroutine
use Rattle.sim_move.specs.Pieces as piece
use Rattle.sim_move.proofs.source.index_source.Goals as goal

pub returns : goal.returns
returns g c =
    let read = exit_then subroutine.stream c.request_source.ensures refl c.stream_value.ensures in
    exit_then check_index (exit_then piece.request_index read refl c.request_index.ensures) refl c.check_index.ensures
