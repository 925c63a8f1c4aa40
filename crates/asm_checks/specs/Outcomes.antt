-- The outcome of a line of the code, as the definitions have it.
use Rattle.std.specs.Prelude.{ℕ, List, Option, Some, None, Result, Ok, Err}
use Rattle.source_defs.specs.Refusals.{◌>>=◌}
use Rattle.expression_defs.specs.Expression.{Value, known_value}
use Rattle.instruction_defs.specs.declared.causes.FormError.{FormError}
use Rattle.instruction_defs.specs.declared.causes.FormError.TheVariants.{BadOperand}
use Rattle.asm_defs.specs.Statements.{as_form}
use Rattle.std.specs.Option.{option_map}
use Rattle.object_defs.specs.declared.spot.Spot.{Spot}
use Rattle.asm_text.specs.declared.expressions.values.Value.{Value as CodeValue}
use Rattle.asm_text.specs.GivenValues.{model_of_value}
use Rattle.asm_defs.specs.Modules.{spot_of}
use Rattle.asm_forms.specs.Placed.{model_of_words, placed_words}
use Rattle.asm_defs.specs.declared.causes.AsmCause.{AsmCause}
use Rattle.asm_defs.specs.declared.causes.AsmCause.TheVariants.{Form}
use Rattle.asm_defs.specs.FirstChecks.{as_expr}
use Rattle.asm_defs.specs.SecondChecks as spec
use Rattle.asm_checks.specs.declared.second_checks.Outcome.{Outcome}
use Rattle.asm_checks.specs.declared.second_checks.Outcome.TheVariants.{Nothing, Instruction, Words, Bytes, Entry}

abbrev pub model_of_outcome : Outcome → spec.Outcome
model_of_outcome Nothing = spec.Nothing
model_of_outcome (Instruction placed) = spec.Words (placed_words placed)
model_of_outcome (Words words) = spec.Words (model_of_words words.items)
model_of_outcome (Bytes bytes) = spec.Bytes bytes.items
model_of_outcome (Entry entry) = spec.Entry entry

-- what the words of an instruction are for its line
abbrev pub words_by : Result (List Value) FormError → Result spec.Outcome AsmCause
words_by words = as_form words >>= λ words. Ok (spec.Words words)

abbrev pub byte_answer : Option ℕ → Result ℕ AsmCause
byte_answer (Some byte) = Ok byte
byte_answer None = Err (Form BadOperand)

-- whether a name of DEF stands for something here
abbrev pub known_answer : Option Value → Result spec.Outcome AsmCause
known_answer found = as_expr (known_value found) >>= λ value. spec.defined_here value >>= λ value. Ok spec.Nothing

-- the spot that a name stands for
abbrev pub model_of_spot : Option CodeValue → Spot
model_of_spot found = spot_of (option_map model_of_value found)
