use Rattle.std.specs.List.{flat_map, range_with_len}
use Rattle.bench_io.specs.Written.{Wrote}
use Rattle.report_defs.specs.Rows.{row_lines}
use Rattle.report_lines.proofs.rows.put_rows.Given as goal

-- the lines of the rows so far were written
abbrev pub invariant-loop-number : goal.invariant-loop-number
invariant-loop-number g l =
    let state = g.O.Sink.state in
    Wrote (state l.fn.out) (state l.out) (flat_map (row_lines l.first l.bytes) (range_with_len 0 l.number))
