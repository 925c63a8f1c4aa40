use Rattle.std.proofs.Common.{rules}
use Rattle.reports.proofs.execution.end_line.Goals as goal

pub returns-in-SelfJump : goal.returns-in-SelfJump
returns-in-SelfJump c = search rules
