use Rattle.std.proofs.Common.{rules}
use Rattle.asm_forms.proofs.ranges.jump.Goals as goal

pub returns-in-Some-clause-value : goal.returns-in-Some-clause-value
returns-in-Some-clause-value c = search rules
