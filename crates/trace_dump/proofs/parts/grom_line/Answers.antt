use Rattle.std.proofs.Common.{arith}
use Rattle.report_defs.specs.Dump.{grom_line}
use Rattle.std.proofs.Common.{append_assoc}
use Rattle.trace_dump.proofs.parts.grom_line.Goals as goal

pub returns : goal.returns
unfolding grom_line
returns c = grind (arith, append_assoc)
