use Rattle.std.proofs.Common.{◌≡◌, ◌≤◌, ◌+◌, ◌/◌, length, arith}
use Rattle.std.proofs.lemmas.Result.{err_from_is_err_and}
use Rattle.bench_io.proofs.Writes.{wrote_more, missed_more, missed_early}
use Rattle.report_defs.specs.Rows.{row_lines, rows_lines}
use Rattle.report_defs.proofs.Ranges.{more, all_split}
use Rattle.report_lines.proofs.rows.put_rows.Goals as goal

pub loop-number-preserved : goal.loop-number-preserved
loop-number-preserved g c =
    let f = row_lines c.args.first c.args.bytes.now in
    rw (more f c.loop-number.number) (wrote_more _ _ _ _ _ c.loop-number.invariant c.in_ok-put_row.ensures)

pub returns-in_err-put_row : goal.returns-in_err-put_row
unfolding rows_lines
returns-in_err-put_row g c =
    let f = row_lines c.args.first c.args.bytes.now in
    let n = c.loop-number.number in
    let all = length c.args.bytes.now / 16 in
    let le : n + 1 ≤ all = omega (arith, c.loop-number-test.true, c.loop-number.auto.number-end) in
    let p = err_from_is_err_and c.from_residual.result c.from_residual.ensures.1 in
    rw (p.1, all_split f (n + 1) all le, more f n)
    (missed_early _ _ _ _ (missed_more _ _ _ _ _ c.loop-number.invariant c.in_err-put_row.ensures))

pub returns : goal.returns
unfolding rows_lines
returns g c =
    let all : c.loop-number.number ≡ length c.args.bytes.now / 16 = omega (arith, c.loop-number-test.false, c.loop-number.auto.number-end) in
    rw (← all) c.loop-number.invariant
