use Rattle.std.proofs.Common.{◌≡◌, length, map, ℕ}
use Rattle.gpl_defs.specs.declared.instruction.GplOperation.{GplOperation}
use Rattle.gpl_forms.specs.Operations.{operation_in}
use Rattle.gpl_forms.proofs.operations.operation_in.Given as goal

-- the rows that are left have the same operation
abbrev pub invariant-loop-rows : goal.invariant-loop-rows
invariant-loop-rows l =
    operation_in (map {B = ℕ × ℕ × GplOperation} (λ row. (row.1, row.2, row.3)) l.rows) l.code
    ≡ operation_in (map {B = ℕ × ℕ × GplOperation} (λ row. (row.1, row.2, row.3)) l.initial.rows) l.code

abbrev pub decreases-loop-rows : goal.decreases-loop-rows
decreases-loop-rows l = length l.rows
