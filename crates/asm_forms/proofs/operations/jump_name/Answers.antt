use Rattle.std.proofs.Common.{rules}
use Rattle.asm_forms.proofs.operations.jump_name.Goals as goal

pub returns-in-JMP-clause-name : goal.returns-in-JMP-clause-name
returns-in-JMP-clause-name c = search rules
