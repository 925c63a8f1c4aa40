use Rattle.std.proofs.Common.{arith}
use Rattle.bench_io.proofs.Writes.{wrote_none}
use Rattle.report_lines.proofs.rows.put_row.Goals as goal

pub returns : goal.returns
returns g c = grind (arith, wrote_none)

pub returns-then-not-is_repeated : goal.returns-then-not-is_repeated
returns-then-not-is_repeated g c = grind (arith, wrote_none)
