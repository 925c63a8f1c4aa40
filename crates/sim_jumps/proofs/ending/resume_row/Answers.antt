use Rattle.sim_rows.proofs.Common.{is_view}
use Rattle.sim_rows.proofs.sim_view.Routines.{comes_by}
use Rattle.sim_jumps.proofs.Jumps.{row_resumes}
use Rattle.sim_jumps.proofs.ending.resume_row.Goals as goal

pub returns : goal.returns
returns g c = λ changes next shows to.
    let seen = is_view c.args.machine.now c.requires.is_at.machine in
    comes_by c.resume_row_routine.ensures (row_resumes changes next _ shows to (seen.r 14))
