-- The fields of a line, as an instruction line has them.
use Rattle.std.specs.Prelude.{ℕ, List, [], Option, Some, None, Result}
use Rattle.source_defs.specs.Refusals.{◌>>=◌}
use Rattle.expression_defs.specs.Expression.{Value}
use Rattle.instruction_defs.specs.declared.causes.FormError.{FormError}
use Rattle.instruction_defs.specs.FirstChecks.{first_checks}
use Rattle.instruction_defs.specs.SecondChecks.{second_checks}
use Rattle.source_defs.specs.declared.text.Span.{Span}
use Rattle.source_defs.specs.Lines.{part}
use Rattle.asm_text.specs.declared.text_lines.line_fields.Fields.{Fields}

abbrev pub text_at : List ℕ → Option Span → List ℕ
text_at line None = []
text_at line (Some span) = part line span

abbrev pub operation_in : List ℕ → Fields → List ℕ
operation_in line found = text_at line found.operation

abbrev pub operands_in : List ℕ → Fields → List ℕ
operands_in line found = part line found.operands

-- the words of an instruction line: both checks, one after the other
abbrev pub line_words : (List ℕ → Option Value) → Value → List ℕ → List ℕ → Result (List Value) FormError
line_words look here operation field = do
  skeleton ← first_checks operation field
  second_checks look here skeleton
