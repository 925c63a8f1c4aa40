use Rattle.std.proofs.Common.{arith}
use Rattle.std.proofs.lemmas.Grind.{common_steps}
use Rattle.instruction_defs.specs.SecondChecks.{second_checks}
use Rattle.asm_forms.proofs.parse.second_checks.Goals as goal

pub returns-in_err-operands-in-Instruction : goal.returns-in_err-operands-in-Instruction
unfolding second_checks
returns-in_err-operands-in-Instruction c = grind (arith, common_steps)

pub returns-in_ok-operands-in-Instruction : goal.returns-in_ok-operands-in-Instruction
unfolding second_checks
returns-in_ok-operands-in-Instruction c = grind (arith, common_steps)
