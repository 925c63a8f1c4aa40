use Rattle.std.proofs.Common.{rules}
use Rattle.asm_forms.proofs.instruction.instruction_of.Goals as goal

pub returns-in-Two-clause-instr : goal.returns-in-Two-clause-instr
returns-in-Two-clause-instr c = search rules
