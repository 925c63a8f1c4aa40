use Rattle.std.proofs.Common.{arith, append_assoc}
use Rattle.asm_forms.proofs.operands_text.push_operands.Goals as goal

pub returns-in-Reg : goal.returns-in-Reg
returns-in-Reg c = grind (arith, append_assoc)

pub returns-in-Shift : goal.returns-in-Shift
returns-in-Shift c = grind (arith, append_assoc)

pub returns-in-One : goal.returns-in-One
returns-in-One c = grind (arith, append_assoc)

pub returns-in-Jump : goal.returns-in-Jump
returns-in-Jump c = grind (arith, append_assoc)

pub returns-then-has_immediate : goal.returns-then-has_immediate
returns-then-has_immediate c = grind (arith, append_assoc)

pub returns-else-has_immediate : goal.returns-else-has_immediate
returns-else-has_immediate c = grind (arith, append_assoc)

pub returns-then-has_value : goal.returns-then-has_value
returns-then-has_value c = grind (arith, append_assoc)
