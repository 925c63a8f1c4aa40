use Rattle.std.proofs.Common.{◌<◌, ◌≡◌, arith}
use Rattle.sim_view.proofs.Routines.{exit_then, exits_by}
use Rattle.sim_view.specs.Prelude.{view}
use Rattle.sim_operands.proofs.Routines
use Rattle.sim_operands.specs.Pieces as piece
use Rattle.sim_operands.proofs.load.load_routine.Goals as goal

pub returns-then-space-eq1 : goal.returns-then-space-eq1
returns-then-space-eq1 g c =
    let space = c.register-space.ensures in
    let test = c.if-space-eq1.true in
    let one : (view c.args.machine.now).r.r5 ≡ 1 = omega arith in
    exits_by (Routines.load_of_video _ one)
    (exit_then piece.load_video c.load_value.ensures (Routines.asks_video_value _ one) c.load_video.ensures)

pub returns-then-space-gt1 : goal.returns-then-space-gt1
returns-then-space-gt1 g c =
    let space = c.register-space.ensures in
    let test = c.if-space-gt1.true in
    let more : 1 < (view c.args.machine.now).r.r5 = omega arith in
    exits_by (Routines.load_of_stream _ more)
    (exit_then piece.stream c.load_value.ensures (Routines.asks_stream _ more) c.stream_value.ensures)

pub returns-else-space-gt1 : goal.returns-else-space-gt1
returns-else-space-gt1 g c =
    let space = c.register-space.ensures in
    let one = c.if-space-eq1.false in
    let more = c.if-space-gt1.false in
    exits_by (Routines.load_of_cells _ (omega arith)) c.load_value.ensures
