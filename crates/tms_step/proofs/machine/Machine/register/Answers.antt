use Rattle.std.proofs.Common.{rules}
use Rattle.tms_step.proofs.machine.Machine.register.Goals as goal

pub returns : goal.returns
returns c = search rules
