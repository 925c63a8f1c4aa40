-- The words that the code places, as the definitions have them.
use Rattle.std.specs.Prelude.{List, ◌∷◌, map, Result, Ok, Err}
use Rattle.source_defs.specs.Refusals.{◌>>=◌}
use Rattle.instruction_defs.specs.declared.causes.FormError.{FormError}
use Rattle.expression_defs.specs.Expression as expression
use Rattle.tms_defs.specs.Instructions.{word_of}
use Rattle.tms_defs.specs.declared.instruction.Operation.{Operation}
use Rattle.instruction_defs.specs.SecondChecks.{Operand, EncodedOperand, all_ranged, instruction_of, all_following}
use Rattle.asm_forms.specs.declared.placed.Word.{Word}
use Rattle.asm_forms.specs.declared.placed.Word.TheVariants.{Plain, Relocatable, External}
use Rattle.asm_forms.specs.declared.placed.Placed.{Placed}

abbrev pub model_of_word : Word → expression.Value
model_of_word (Plain word) = expression.Absolute word
model_of_word (Relocatable place) = expression.Relocatable place
model_of_word (External name) = expression.External name

abbrev pub model_of_words : List Word → List expression.Value
model_of_words words = map model_of_word words

abbrev pub placed_words : Placed → List expression.Value
placed_words placed = model_of_words placed.words.items

abbrev pub encoded_words : Operation → List EncodedOperand → List expression.Value
encoded_words operation readies =
    expression.Absolute (word_of (instruction_of operation readies)) ∷ all_following readies

-- the words of an operation with operands, where these are in their ranges
abbrev pub placed_of : expression.Value → Operation → List Operand → Result (List expression.Value) FormError
placed_of here operation operands = do
  readies ← all_ranged here operands
  Ok (encoded_words operation readies)

abbrev pub placed_answer : Result Placed FormError → Result (List expression.Value) FormError
placed_answer (Ok placed) = Ok (placed_words placed)
placed_answer (Err cause) = Err cause
