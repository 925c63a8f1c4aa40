use Rattle.std.proofs.Common.{refl}
use Rattle.sim_rows.proofs.sim_view.Routines.{exit_then}
use Rattle.sim_rows.specs.Pieces as step
use Rattle.sim_rows.specs.sim_operands.Pieces as subroutine
use Rattle.sim_move.specs.Pieces as piece
use Rattle.sim_move.proofs.source.turn_to_source.Goals as goal

pub returns : goal.returns
returns g c =
    let located = exit_then step.where_next c.request_next.ensures refl c.where_next.ensures in
    let kept = exit_then piece.seek_source located refl c.seek_source.ensures in
    exit_then piece.turn_to_grom (exit_then subroutine.seek kept refl c.seek_address.ensures) refl c.turn_to_grom.ensures
