use Rattle.std.proofs.Common.{append_assoc, arith}
use Rattle.source_defs.specs.Digits.{right_in}
use Rattle.report_lines.proofs.line.append_right.Goals as goal

pub returns-clause-bytes : goal.returns-clause-bytes
unfolding right_in
returns-clause-bytes c = grind (arith, append_assoc)
