use Rattle.sim_view.proofs.Common.{is_view}
use Rattle.sim_view.proofs.Routines.{comes_by}
use Rattle.sim_rows.proofs.Routines.{row_finishes}
use Rattle.sim_rows.proofs.tail.finish_row.Goals as goal

pub returns : goal.returns
returns g c = λ changes width place number asked.
    let seen = is_view c.args.machine.now c.requires.is_at.machine in
    comes_by c.finish_row_routine.ensures (row_finishes asked (seen.r 7) c.requires.visible)
