use Rattle.std.proofs.Common.{length, ℕ, List, ap, arith}
use Rattle.std.proofs.lemmas.List.{length-map}
use Rattle.source_defs.specs.Operands.{operands}
use Rattle.source_defs.proofs.OperandCounts.{operands_le}
use Rattle.asm_text.proofs.operand_fields.operand_lists.operand_count.Goals as goal

pub overflow_add-count : goal.overflow_add-count
overflow_add-count c =
    omega (arith, ap length c.in-Some.ensures.steps, c.loop.invariant, operands_le c.args.field.now, c.requires)

pub returns-clause-count : goal.returns-clause-count
returns-clause-count c =
    omega (arith, ap length c.in-None.ensures.steps.0, c.loop.invariant, length-map {B = List ℕ} (operands c.args.field.now))

pub returns-clause-most : goal.returns-clause-most
returns-clause-most c =
    omega (arith, c.loop.invariant, operands_le c.args.field.now, c.requires)
