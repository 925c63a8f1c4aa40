-- The code's table of operations has the rows of the definition.
use Rattle.std.proofs.Common.{◌≡◌, ℕ, List, refl}
use Rattle.std.specs.Prelude.{map}
use Rattle.gpl_defs.specs.declared.instruction.GplOperation.{GplOperation}
use Rattle.gpl_defs.specs.declared.operations.TheConstants.{OPERATIONS}
use Rattle.gpl_defs.specs.Codes.{operations, row_of}

-- an operation with what the table says of it
abbrev Named : Type 0
Named = List ℕ × ℕ × ℕ × GplOperation

rows_are : map {B = Named} (λ row. (row.0.now, row.1, row.2, row.3)) OPERATIONS
    ≡ map {B = Named} (λ operation. ((row_of operation).name, (row_of operation).code, (row_of operation).count, operation)) operations
rows_are = refl
