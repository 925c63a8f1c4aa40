use Rattle.std.proofs.Common.{refl}
use Rattle.sim_rows.specs.Prelude.{shown_by, view}
use Rattle.sim_rows.proofs.Matched.{bytes_fit, pc_fits, sees_at}
use Rattle.sim_rows.proofs.StepStart.{begins}
use Rattle.sim_rows.proofs.step.begin_step.Goals as goal

pub returns : goal.returns
returns g c =
    let x = c.args.machine.now in
    let m = x.cpu.memory in
    let s = shown_by m in
    let i = c.holds_bounds.ensures.memory in
    begins s (view x) (sees_at x c.requires) (pc_fits m i) (bytes_fit m i s.pc) x _ _ _ refl c.dispatch.ensures
