use Rattle.std.proofs.Common.{refl}
use Rattle.sim_rows.proofs.sim_view.Routines.{exit_then}
use Rattle.sim_rows.specs.Routines.{end_row}
use Rattle.sim_jumps.specs.Routines.{resume_row}
use Rattle.sim_jumps.proofs.ending.resume_row_routine.Goals as goal

pub end_row_routine-requires : goal.end_row_routine-requires
end_row_routine-requires g c = c.resume.ensures.is_at

pub returns : goal.returns
unfolding resume_row
returns g c = exit_then end_row c.resume.ensures refl c.end_row_routine.ensures
