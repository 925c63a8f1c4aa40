use Rattle.sim_rows.proofs.Common.{idle_grom, idle_video, is_view}
use Rattle.sim_steps.proofs.Boots.{begins}
use Rattle.sim_steps.proofs.start.start_program.Goals as goal

pub returns : goal.returns
returns g c =
    let x = c.args.machine.now in
    let m = x.cpu.memory in
    begins x c.boot.new.machine c.seek_address.new.machine c.args.steps.now c.boot.new.steps c.seek_address.new.steps c.requires.is_at
    (idle_video m c.requires.idle) (idle_grom m c.requires.idle) ((is_view x c.requires.is_at.machine).r 0) c.boot.ensures c.seek_address.ensures
