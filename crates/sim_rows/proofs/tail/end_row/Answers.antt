use Rattle.sim_view.proofs.Routines.{comes_by}
use Rattle.sim_rows.proofs.Routines.{row_ends}
use Rattle.sim_rows.proofs.tail.end_row.Goals as goal

pub returns : goal.returns
returns g c = λ changes changed. comes_by c.end_row_routine.ensures (row_ends changes _ changed)
