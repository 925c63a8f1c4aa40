use Rattle.std.proofs.Common.{rules}
use Rattle.tms_step.proofs.cpu.Cpu.branched.Goals as goal

pub invariant_of-self : goal.invariant_of-self
invariant_of-self c = search rules
