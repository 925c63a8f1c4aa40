use Rattle.std.proofs.Common.{ap, ◌∙◌, subst}
use Rattle.console_defs.specs.Memory.{IsMemory}
use Rattle.console_defs.specs.Machine.{MachineState}
use Rattle.gpl_step_defs.specs.State.{GplState}
use Rattle.gpl_step_defs.specs.Run.{run}
use Rattle.interp_defs.specs.Programs.{RunsSteps}
use Rattle.interp_defs.proofs.Machines.{runs_program}
use Rattle.bench_commands.proofs.commands.program.run_session.Goals as goal

pub returns : goal.returns
returns g c =
    let limit = c.args.limit in
    let begins = c.new-session.ensures.begins in
    let first = c.new-session.result.machine in
    let ran = c.run-made.ensures in
    let last = c.run-made.new.self.machine in
    let runs = subst (λ (s : GplState). RunsSteps s limit ran.count first last) begins.matches.shows ran.runs in
    record {
      runs = runs_program c.holds_bounds.ensures c.requires.new begins.boots begins.within runs;
      ended = ran.stop_is ∙ ap (λ (s : GplState). (run limit s).stop) begins.matches.shows;
      made_is = ran.done_is ∙ ap (λ (s : GplState). (run limit s).done) begins.matches.shows;
      memory = subst (λ (y : MachineState). IsMemory y.cpu.memory) c.machine.ensures c.holds_bounds-2.ensures.memory;
    }
