use Rattle.std.proofs.Common.{◌≡◌, ◌+◌, length}
use Rattle.source_defs.specs.Operands.{operands}
use Rattle.asm_text.proofs.operand_fields.operand_lists.operand_count.Given as goal

abbrev pub invariant-loop : goal.invariant-loop
invariant-loop l = l.count + length l.iterator' ≡ length (operands l.field)
