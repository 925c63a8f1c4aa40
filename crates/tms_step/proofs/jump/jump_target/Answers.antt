use Rattle.std.proofs.Common.{arith}
use Rattle.tms_step.proofs.Jumps.{even_target}
use Rattle.tms_step.proofs.jump.jump_target.Goals as goal

pub returns-clause-target : goal.returns-clause-target
returns-clause-target c = grind (arith, even_target)
