use Rattle.std.proofs.lemmas.Result.{err_from_is_err_and}
use Rattle.report_defs.specs.Exec.{exec_lines}
use Rattle.machine_change_defs.specs.Lines.{expansion_lines}
use Rattle.bench_io.proofs.Writes.{written_more, missed_early}
use Rattle.debug_commands.proofs.shown.put_left.Goals as goal

pub returns-in_err-put_execution : goal.returns-in_err-put_execution
returns-in_err-put_execution g c =
    let p = err_from_is_err_and c.from_residual.result c.from_residual.ensures.1 in
    rw p.1 (missed_early (g.O.Sink.state c.args.out.now) (g.O.Sink.state c.put_execution.new.out) (exec_lines c.args.ending c.args.machine.now)
    (expansion_lines c.args.machine.now.cpu.memory) c.in_err-put_execution.ensures)

pub returns : goal.returns
returns g c =
    rw c.bus.ensures at
    (written_more c.put_expansion.result (g.O.Sink.state c.args.out.now) (g.O.Sink.state c.put_execution.new.out) (g.O.Sink.state c.put_expansion.new.out)
    (exec_lines c.args.ending c.args.machine.now) (expansion_lines c.bus.result.now) c.in_ok-put_execution.ensures c.put_expansion.ensures)
