use Rattle.std.proofs.Common.{subst, arith}
use Rattle.gpl_step_defs.specs.State.{GplState}
use Rattle.sim_steps.specs.Starting.{StartsProgram}
use Rattle.gpl_run.specs.Sessions.{image_of, entry_of}
use Rattle.gpl_run.proofs.session.Session.new.Goals as goal

pub returns-clause-begins : goal.returns-clause-begins
returns-clause-begins g c =
    let x = c.args.machine in
    let y = c.start_program.new.machine in
    let before = c.args.steps.now in
    let after = c.start_program.new.steps in
    let started = c.machines_start.ensures (image_of x) (entry_of x) x c.holds_bounds.ensures c.requires in
    let begins = subst (λ (s : GplState). StartsProgram s 10 x y before after) started.2 c.start_program.ensures in
    let within = begins.within in
    record { count = begins.count; within = omega arith; counted = begins.counted; boots = begins.boots; matches = begins.matches }
