use Rattle.std.proofs.Common.{[], ◌∷◌}
use Rattle.std.proofs.lemmas.Result.{err_from_is_err_and}
use Rattle.bench_io.proofs.Writes.{missed_early, written_more}
use Rattle.report_defs.specs.Dump.{dump_lines}
use Rattle.report_defs.specs.Exec.{end_line}
use Rattle.reports.proofs.execution.put_execution.Goals as goal

pub returns-in_err-put_chunk : goal.returns-in_err-put_chunk
returns-in_err-put_chunk g c =
    let missed = rw (c.as_slice.ensures.value, c.end_line.ensures) at c.in_err-put_chunk.ensures in
    let p = err_from_is_err_and c.from_residual.result c.from_residual.ensures.1 in
    rw p.1 (missed_early _ _ (end_line c.args.ending ∷ []) (dump_lines c.args.machine.now) missed)

pub returns : goal.returns
returns g c =
    let wrote = rw (c.as_slice.ensures.value, c.end_line.ensures) at c.in_ok-put_chunk.ensures in
    written_more _ _ _ _ (end_line c.args.ending ∷ []) (dump_lines c.args.machine.now) wrote c.dump.ensures
