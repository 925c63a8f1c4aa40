use Rattle.std.proofs.Common.{◌∙◌, subst}
use Rattle.console_defs.specs.Memory.{IsMemory}
use Rattle.console_defs.specs.Machine.{MachineState}
use Rattle.watch_command.proofs.Reports.{watches}
use Rattle.watch_command.proofs.run.watch_session.Goals as goal

pub returns : goal.returns
returns g c =
    let begun = c.new-session in
    let ran = c.run-found in
    let items = c.in_ok-watch.ensures.items ∙ (c.in_ok-items.ensures.items ∙ c.as_slice.ensures.items) in
    let memory =
    subst (λ (y : MachineState). IsMemory y.cpu.memory) c.machine.ensures c.holds_bounds-2.ensures.memory in
    watches c.args.machine c.holds_bounds.ensures c.requires.new begun.result _ _ begun.ensures.begins
    begun.ensures.running c.args.limit c.args.items.now _ ran.result ran.new.session _ _ items ran.ensures.found
    ran.ensures.runs memory
