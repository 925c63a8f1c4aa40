use Rattle.std.proofs.Common.{Option, None, subst}
use Rattle.bench_io.specs.Stream.{SourceState}
use Rattle.report_defs.specs.declared.command.Command.{Command}
use Rattle.reports.specs.Run.{EndsParsed, Run}
use Rattle.bench_commands.specs.Bench.{bench_input, bench_program}
use Rattle.bench_commands.proofs.Ends.{by_usage, line_of_usage}
use Rattle.bench_commands.proofs.running.bench.Goals as goal

pub returns-in-Some-clause-ends : goal.returns-in-Some-clause-ends
returns-in-Some-clause-ends g c =
    let out = g.O.Sink.state in
    let err = g.E.Sink.state in
    let new = c.run_command.new in
    let run : Option Command → Run Command SourceState = λ parsed. record {
      parsed = parsed;
      before = g.S.Source.state c.args.input.now;
      after = g.S.Source.state new.input;
      outputs = record { out = out c.args.out.now; out' = out new.out; err = err c.args.err.now; err' = err new.err };
    } in
    subst (λ parsed. EndsParsed bench_program parsed (run parsed) c.run_command.result) c.in-Some.ensures.command c.run_command.ensures

pub returns-in-None-clause-ends : goal.returns-in-None-clause-ends
returns-in-None-clause-ends g c =
    let source = g.S.Source.state c.args.input.now in
    let out = g.O.Sink.state in
    let err = g.E.Sink.state in
    let run : Option Command → Run Command SourceState = λ parsed. record {
      parsed = parsed;
      before = source;
      after = source;
      outputs = record { out = out c.args.out.now; out' = out c.finish.new.out; err = err c.args.err.now; err' = err c.finish.new.err };
    } in
    subst (λ parsed. EndsParsed bench_program parsed (run parsed) c.finish.result) c.in-None.ensures.command
    (let line = line_of_usage (run None).outputs c.finish.result c.finish.ensures in
    by_usage bench_input source (run None).outputs c.finish.result line.0 line.1)
