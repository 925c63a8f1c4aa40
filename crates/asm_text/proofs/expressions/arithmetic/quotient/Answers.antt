use Rattle.std.proofs.Common.{rules}
use Rattle.asm_text.proofs.expressions.arithmetic.quotient.Goals as goal

pub returns-else-is_negative : goal.returns-else-is_negative
returns-else-is_negative c = search rules
