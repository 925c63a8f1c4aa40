use Rattle.std.proofs.Common.{Option, refl, subst}
use Rattle.debug_report_defs.specs.declared.command.DebugCommand.{DebugCommand}
use Rattle.reports.specs.Run.{EndsParsed, Run}
use Rattle.file_commands.specs.Inputs.{Inputs}
use Rattle.debug_commands.specs.Debug.{debug_program}
use Rattle.debug_commands.proofs.ShelfUse.{takes_of_shelf}
use Rattle.debug_commands.proofs.running.debug.Goals as goal

pub returns-in-Some-clause-ends : goal.returns-in-Some-clause-ends
returns-in-Some-clause-ends g c =
    let source = g.S.Source.state in
    let shelf = g.F.Shelf.shelf in
    let out = g.O.Sink.state in
    let err = g.E.Sink.state in
    let new = c.run_debug_command.new in
    let run : Option DebugCommand → Run DebugCommand Inputs = λ parsed. record {
      parsed = parsed;
      before = record { input = source c.args.input.now; shelf = shelf c.args.shelf.now };
      after = record { input = source new.input; shelf = shelf new.shelf };
      outputs = record { out = out c.args.out.now; out' = out new.out; err = err c.args.err.now; err' = err new.err };
    } in
    subst (λ parsed. EndsParsed debug_program parsed (run parsed) c.run_debug_command.result) c.in-Some.ensures.command c.run_debug_command.ensures.ends

pub returns-in-Some-clause-shelf : goal.returns-in-Some-clause-shelf
returns-in-Some-clause-shelf g c = takes_of_shelf _ c.run_debug_command.result (returns-in-Some-clause-ends g c)

pub returns-in-None-clause-ends : goal.returns-in-None-clause-ends
returns-in-None-clause-ends g c =
    let reading : Inputs = record { input = g.S.Source.state c.args.input.now; shelf = g.F.Shelf.shelf c.args.shelf.now } in
    let out = g.O.Sink.state c.args.out.now in
    let err = g.E.Sink.state in
    let run : Option DebugCommand → Run DebugCommand Inputs = λ parsed. record {
      parsed = parsed;
      before = reading;
      after = reading;
      outputs = record { out = out; out' = out; err = err c.args.err.now; err' = err c.end_with_line.new.err };
    } in
    subst (λ parsed. EndsParsed debug_program parsed (run parsed) c.end_with_line.result) c.in-None.ensures.command
    (record { unread = refl; out = refl; line = rw (c.usage.ensures) at c.end_with_line.ensures })
