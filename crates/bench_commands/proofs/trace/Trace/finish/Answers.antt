use Rattle.std.proofs.Common.{refl, sym, ◌∙◌, subst}
use Rattle.console_defs.specs.Memory.{IsMemory}
use Rattle.console_defs.specs.Machine.{MachineState}
use Rattle.bench_commands.proofs.Traces.{traces_whole, breaks_off}
use Rattle.bench_commands.proofs.trace.Trace.finish.Goals as goal

pub returns : goal.returns
returns g c =
    let p = c.play_session.ensures in
    let memory = subst (λ (y : MachineState). IsMemory y.cpu.memory) c.machine.ensures c.holds_bounds.ensures.memory in
    traces_whole g.T.StepLine.shows _ c.args.self c.play_session.new.session _ p.0 p.1 c.play_session.result _ p.2
    (sym c.is_err.ensures.value ∙ c.if-is_err.false) memory c.finish.ensures

pub returns-then-is_err : goal.returns-then-is_err
returns-then-is_err g c =
    let p = c.play_session.ensures in
    breaks_off g.T.StepLine.shows _ c.args.self c.play_session.new.session p.0 p.1 c.play_session.result p.2
    (sym c.is_err.ensures.value ∙ c.if-is_err.true) refl
