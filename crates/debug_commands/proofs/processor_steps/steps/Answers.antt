use Rattle.std.proofs.Common.{sym, refl, subst}
use Rattle.report_defs.specs.declared.status.Status.{Status}
use Rattle.reports.specs.Outputs.{Outputs}
use Rattle.reports.specs.Answers.{Ends, error_answer}
use Rattle.reports.specs.declared.command_error.CommandError.{CommandError}
use Rattle.debug_commands.specs.Ends.{EndsInstructions}
use Rattle.debug_commands.proofs.StepsEnds.{by_refusal, by_memory, by_whole, by_failed}
use Rattle.debug_commands.proofs.processor_steps.steps.Goals as goal

pub returns-in-Err : goal.returns-in-Err
returns-in-Err g c =
    let out = g.O.Sink.state in
    let err = g.E.Sink.state in
    let finish = c.finish in
    let o : Outputs = record { out = out c.args.out.now; out' = out finish.new.out; err = err c.args.err.now; err' = err finish.new.err } in
    by_refusal c.args.limit c.args.input.now o (error_answer c.in-Err.command_error) finish.result c.in-Err.ensures finish.ensures

pub returns-in-Err-new : goal.returns-in-Err-new
returns-in-Err-new g c =
    let out = g.O.Sink.state in
    let err = g.E.Sink.state in
    let finish = c.finish-in-Err-new in
    let o : Outputs = record { out = out c.args.out.now; out' = out finish.new.out; err = err c.args.err.now; err' = err finish.new.err } in
    by_memory c.args.limit c.args.input.now o finish.result
    (subst (λ (command_error : CommandError). Ends o (error_answer command_error) finish.result) c.into.ensures finish.ensures)

pub returns-in-Err-new-2 : goal.returns-in-Err-new-2
returns-in-Err-new-2 g c =
    let out = g.O.Sink.state in
    let err = g.E.Sink.state in
    let finish = c.finish-in-Err-new-2 in
    let o : Outputs = record { out = out c.args.out.now; out' = out finish.new.out; err = err c.args.err.now; err' = err finish.new.err } in
    by_memory c.args.limit c.args.input.now o finish.result
    (subst (λ (command_error : CommandError). Ends o (error_answer command_error) finish.result) c.into-in-Err-new-2.ensures finish.ensures)

pub returns-in-Ok-write_run : goal.returns-in-Ok-write_run
returns-in-Ok-write_run g c =
    let out = g.O.Sink.state in
    let err = g.E.Sink.state in
    let o : Outputs = record { out = out c.args.out.now; out' = out c.write_run.new.out; err = err c.args.err.now; err' = err c.args.err.now } in
    let s = c.in-Ok.ensures in
    subst (λ (end : Status). EndsInstructions c.args.limit c.args.input.now o end) (sym c.end_status.ensures)
    (by_whole c.args.limit c.args.input.now s.0 s.1 c.in-Ok.machine c.write_run.new.machine s.2 o refl c.in-Ok-write_run.ending c.in-Ok-write_run.ensures)

pub returns : goal.returns
returns g c =
    let out = g.O.Sink.state in
    let err = g.E.Sink.state in
    let o : Outputs = record { out = out c.args.out.now; out' = out c.write_run.new.out; err = err c.args.err.now; err' = err c.args.err.now } in
    let s = c.in-Ok.ensures in
    by_failed c.args.limit c.args.input.now s.0 s.1 c.in-Ok.machine c.write_run.new.machine s.2 o refl c.in-Err-write_run.ensures
