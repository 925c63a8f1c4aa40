use Rattle.std.proofs.Common.{rules}
use Rattle.report_lines.proofs.rows.is_repeated.Goals as goal

pub returns-then-number-gt0 : goal.returns-then-number-gt0
returns-then-number-gt0 c = search rules
