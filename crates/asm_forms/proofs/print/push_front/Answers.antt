use Rattle.std.proofs.Common.{rules}
use Rattle.instruction_defs.specs.Printed.{printed}
use Rattle.asm_forms.proofs.print.push_front.Goals as goal

pub returns-then-from-words-clause-text : goal.returns-then-from-words-clause-text
unfolding printed
returns-then-from-words-clause-text c = search rules
