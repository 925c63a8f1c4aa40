use Rattle.std.proofs.Common.{subst}
use Rattle.reports.specs.Answers.{Ends, error_answer}
use Rattle.reports.specs.Outputs.{Outputs}
use Rattle.bench_commands.specs.Bench.{bench_input}
use Rattle.bench_commands.proofs.NoUsage.{no_usage}
use Rattle.bench_commands.proofs.Ends.{by_unread, by_answer}
use Rattle.bench_commands.proofs.Traces.{by_prepared}
use Rattle.bench_commands.proofs.running.run_command.Goals as goal

pub returns-in-Err : goal.returns-in-Err
returns-in-Err g c =
    let source = g.S.Source.state in
    let out = g.O.Sink.state in
    let err = g.E.Sink.state in
    let new = c.finish.new in
    let o : Outputs = record { out = out c.args.out.now; out' = out new.out; err = err c.args.err.now; err' = err new.err } in
    by_unread bench_input no_usage c.args.command (source c.args.input.now) (source c.take_input.new.input) o c.in-Err.error c.finish.result
    c.in-Err.ensures.reading c.in-Err.ensures.err
    (subst (λ answer. Ends o answer c.finish.result) c.into.ensures c.finish.ensures)

pub returns-in-Ok-prepare : goal.returns-in-Ok-prepare
returns-in-Ok-prepare g c =
    by_prepared c.args.command _ _ _ c.in-Ok.bytes.items c.in-Ok.ensures.ok c.in-Ok-prepare.prepared _ c.in-Ok-prepare.ensures
    c.finish-in-Ok-prepare.ensures

pub returns-in-Err-prepare : goal.returns-in-Err-prepare
returns-in-Err-prepare g c =
    by_answer bench_input no_usage c.args.command _ _ _ c.in-Ok.bytes.items c.in-Ok.ensures.ok (error_answer c.in-Err-prepare.command_error) _
    c.in-Err-prepare.ensures c.finish-in-Err-prepare.ensures
