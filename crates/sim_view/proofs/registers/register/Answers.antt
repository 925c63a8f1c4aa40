use Rattle.sim_view.proofs.Bridge.{register_is}
use Rattle.sim_view.proofs.registers.register.Goals as goal

pub returns : goal.returns
returns c =
    register_is c.args.machine.now.cpu.memory c.args.machine.now.cpu.wp c.args.number c.register.result
    c.holds_bounds.ensures.memory c.requires.workspace c.requires.number c.register.ensures
