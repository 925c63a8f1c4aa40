use Rattle.std.proofs.Common.{rules}
use Rattle.tms_step.proofs.cpu.Cpu.with_immediate.Goals as goal

pub returns-else-eq-3-clause-value : goal.returns-else-eq-3-clause-value
returns-else-eq-3-clause-value c = search rules
