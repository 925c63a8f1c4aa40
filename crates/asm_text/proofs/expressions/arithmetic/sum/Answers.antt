use Rattle.std.proofs.Common.{rules}
use Rattle.asm_text.proofs.expressions.arithmetic.sum.Goals as goal

pub returns-in-Absolute-Absolute : goal.returns-in-Absolute-Absolute
returns-in-Absolute-Absolute c = search rules
