-- The operations by the numbers of their names.
use Rattle.std.specs.Prelude.{ℕ, List, map}
use Rattle.tms_defs.specs.Instructions.{operations}
use Rattle.tms_defs.specs.declared.instruction.Operation.{Operation}
use Rattle.tms_defs.specs.Instructions.{name_of}
use Rattle.asm_text.specs.WordKeys.{key_of}

-- the operations, each after the number of its name
abbrev pub named : List (ℕ × Operation)
named = map (λ operation. (key_of (name_of operation), operation)) operations
