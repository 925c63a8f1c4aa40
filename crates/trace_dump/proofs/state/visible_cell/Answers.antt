use Rattle.std.proofs.Common.{sym, ap, ◌∙◌}
use Rattle.std.specs.Prelude.{slice_index}
use Rattle.std.proofs.lemmas.List.{get_or-take}
use Rattle.console_defs.specs.Memory.{Memory}
use Rattle.console_defs.specs.Machine.{MachineState}
use Rattle.trace_dump.proofs.state.visible_cell.Goals as goal

pub returns : goal.returns
returns c =
    let cell = c.args.cell in
    c.cell.ensures
    ∙ ap (λ (m : Memory). slice_index m.scratchpad cell) (c.bus.ensures ∙ ap (λ (x : MachineState). x.cpu.memory) c.machine.ensures)
    ∙ sym (get_or-take 194 c.args.session.now.machine.cpu.memory.scratchpad cell 0 c.requires)
