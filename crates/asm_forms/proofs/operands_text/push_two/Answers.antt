use Rattle.std.proofs.Common.{arith, append_assoc}
use Rattle.asm_forms.proofs.operands_text.push_two.Goals as goal

pub returns : goal.returns
returns c = grind (arith, append_assoc)
