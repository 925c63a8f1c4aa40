-- What `fields` gives, beside the definition's fields.
use Rattle.std.specs.Prelude.{List, ℕ, IfSome, Result, Ok, Err}
use Rattle.source_defs.specs.declared.causes.TextError.{TextError}
use Rattle.source_defs.specs.Lines.{IsInside}
use Rattle.source_defs.specs.Fields as defined
use Rattle.asm_text.specs.declared.text_lines.line_fields.Fields.{Fields}

-- the definition's fields, with the name seen as its bytes
abbrev pub model_of_fields : Fields → defined.Fields
model_of_fields given = record { label = given.label; operation = given.operation; operands = given.operands }

-- the definition's answer
abbrev pub model_of_answer : Result Fields TextError → Result defined.Fields TextError
model_of_answer (Ok given) = Ok (model_of_fields given)
model_of_answer (Err cause) = Err cause

-- the operation and the operand field lie inside a line
pub record FieldsLieInside (line : List ℕ) (given : Fields) : Type 0 where
  pub operation : IfSome given.operation (IsInside line)
  pub operands : IsInside line given.operands
