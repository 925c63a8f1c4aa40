use Rattle.std.proofs.Common.{subst}
use Rattle.sim_view.proofs.Common.{Exit, Exits, is_view, view}
use Rattle.sim_operands.proofs.Ready.{idle_grom, seeks}
use Rattle.sim_operands.proofs.seek.run_seek.Goals as goal

pub returns : goal.returns
returns g c =
    let x = c.args.machine.now in
    let i = is_view x c.requires.is_at.machine in
    let e = seeks (view x) (idle_grom x.cpu.memory c.requires.idle) (i.r 6) in
    subst (λ (e : Exit). Exits x c.seek_address.new.machine c.args.steps.now c.seek_address.new.steps e) e c.seek_address.ensures
