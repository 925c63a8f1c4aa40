use Rattle.std.proofs.Common.{rules}
use Rattle.asm_forms.proofs.ranges.indexed.Goals as goal

pub returns-then-number-lt16-clause-value : goal.returns-then-number-lt16-clause-value
returns-then-number-lt16-clause-value c = search rules
