-- The rows of the code's table, by their places and by their code bytes.
use Rattle.std.specs.Prelude.{◌≡◌, ℕ, ◌<◌, ◌+◌, ◌&&◌, nat_le, nat_lt, if◌then◌else◌, List, [], ◌∷◌, map, slice_index_or}
use Rattle.std.specs.Prelude.{Option, Some, None}
use Rattle.gpl_defs.specs.declared.instruction.GplOperation.{GplOperation}
use Rattle.gpl_defs.specs.declared.operations.TheConstants.{OPERATIONS}
use Rattle.gpl_defs.specs.Codes.{row_of}

-- the operation of the first of some rows that has a code byte; of a row are here its first code byte, how many it
-- has, and its operation
abbrev pub operation_in : List (ℕ × ℕ × GplOperation) → ℕ → Option GplOperation
operation_in [] code = None
operation_in (row ∷ rows) code =
    if nat_le row.0 code && nat_lt code (row.0 + row.1) then Some row.2 else operation_in rows code

-- the row at a place of the code's table has the name and the code byte of an operation
pub record IsRowAt (place : ℕ) (operation : GplOperation) : Type 0 where
  pub within : place < 49
  pub name : slice_index_or (map (λ row. row.0.now) OPERATIONS) place [] ≡ (row_of operation).name
  pub code : slice_index_or (map (λ row. row.1) OPERATIONS) place 0 ≡ (row_of operation).code
