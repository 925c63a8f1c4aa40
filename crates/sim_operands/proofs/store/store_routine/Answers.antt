use Rattle.std.proofs.Common.{◌<◌, ◌≡◌, arith}
use Rattle.sim_view.proofs.Routines.{exit_then, exits_by}
use Rattle.sim_view.specs.Prelude.{view}
use Rattle.sim_operands.proofs.Routines
use Rattle.sim_operands.specs.Pieces as piece
use Rattle.sim_operands.proofs.store.store_routine.Goals as goal

pub returns-then-space-eq1 : goal.returns-then-space-eq1
returns-then-space-eq1 g c =
    let space = c.register-space.ensures in
    let test = c.if-space-eq1.true in
    let one : (view c.args.machine.now).r.r8 ≡ 1 = omega arith in
    exits_by (Routines.store_in_video _ one)
    (exit_then piece.store_video c.store_value.ensures (Routines.asks_video _ one) c.store_video.ensures)

pub returns-then-space-gt1 : goal.returns-then-space-gt1
returns-then-space-gt1 g c =
    let space = c.register-space.ensures in
    let test = c.if-space-gt1.true in
    let more : 1 < (view c.args.machine.now).r.r8 = omega arith in
    exits_by (Routines.store_in_register _ more)
    (exit_then piece.store_register c.store_value.ensures (Routines.asks_register _ more) c.store_register.ensures)

pub returns-else-space-gt1 : goal.returns-else-space-gt1
returns-else-space-gt1 g c =
    let space = c.register-space.ensures in
    let one = c.if-space-eq1.false in
    let more = c.if-space-gt1.false in
    exits_by (Routines.store_in_cells _ (omega arith)) c.store_value.ensures
