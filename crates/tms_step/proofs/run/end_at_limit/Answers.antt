use Rattle.std.proofs.Common.{rules}
use Rattle.tms_step.proofs.run.end_at_limit.Goals as goal

pub returns-then-is_reached : goal.returns-then-is_reached
returns-then-is_reached c = search rules
