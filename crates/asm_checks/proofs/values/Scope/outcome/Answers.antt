use Rattle.std.proofs.Common.{subst}
use Rattle.expression_defs.specs.Symbols.{look_up}
use Rattle.asm_checks.specs.Defined.{KeepsSkeleton}
use Rattle.asm_checks.proofs.Instructions.{instruction_given}
use Rattle.asm_checks.proofs.values.Scope.outcome.Goals as goal

pub instruction_outcome-requires : goal.instruction_outcome-requires
instruction_outcome-requires c = (subst KeepsSkeleton c.in-Instruction.is c.requires.skeleton).inside

pub returns-in-Instruction : goal.returns-in-Instruction
returns-in-Instruction c =
    instruction_given (look_up c.args.self.now.symbols.now) c.args.self.now.at _ c.args.statement.now c.in-Instruction.is c.requires.skeleton
    c.instruction_outcome.result c.instruction_outcome.ensures
