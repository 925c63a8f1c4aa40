use Rattle.std.proofs.Common.{rules}
use Rattle.report_lines.proofs.line.append_count.Goals as goal

pub returns-clause-bytes : goal.returns-clause-bytes
returns-clause-bytes c = search rules
