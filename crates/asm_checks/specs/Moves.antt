-- What a line of the code does to the location, as the definitions have it.
use Rattle.std.specs.Prelude.{◌+◌, ◌≤◌, ⊤, length, IfSome}
use Rattle.asm_text.specs.GivenValues.{model_of_value}
use Rattle.asm_defs.specs.FirstChecks as spec
use Rattle.asm_checks.specs.declared.statement.Statement.{Statement}
use Rattle.asm_checks.specs.declared.statement.Statement.TheVariants.{Data, Byte, Text}
use Rattle.asm_checks.specs.declared.moves.LocationChange.{LocationChange}

abbrev pub model_of_move : LocationChange → spec.LocationChange
model_of_move move =
    record { origin = move.origin; gap = move.gap; size = move.size; label = model_of_value move.label }

-- what a line of at most 256 bytes says is as short
abbrev pub MovesLittle : Statement → Type 0
MovesLittle (Data field) = length field.now ≤ 256
MovesLittle (Byte field) = length field.now ≤ 256
MovesLittle (Text quoted) = length quoted.now ≤ 256
MovesLittle _ = ⊤

-- a line leads no further than two parts' ends
pub record MovesWithin (move : LocationChange) : Type 0 where
  pub size : move.gap + move.size ≤ 65536
  pub origin : IfSome move.origin (λ location. location.number ≤ 65535)
