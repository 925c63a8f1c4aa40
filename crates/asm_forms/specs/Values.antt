-- The operands that the code values, as the definitions have them.
use Rattle.std.specs.Prelude.{◌<◌, ⊤, List, Option, Result, Ok, Err}
use Rattle.expression_defs.specs.Expression as expression
use Rattle.std.specs.declared.option.Option.TheVariants as option
use Rattle.asm_text.specs.declared.expressions.values.Value.{Value}
use Rattle.asm_text.specs.GivenValues.{model_of_value}
use Rattle.instruction_defs.specs.declared.causes.FormError.{FormError}
use Rattle.instruction_defs.specs.SecondChecks as spec
use Rattle.tms_defs.specs.Instructions.{IsPlace}
use Rattle.asm_forms.specs.UpToTwo.{items_of}
use Rattle.asm_forms.specs.declared.up_to_two.UpToTwo.{UpToTwo}
use Rattle.asm_forms.specs.declared.up_to_two.UpToTwo.TheVariants.{None, One, Two}
use Rattle.asm_forms.specs.declared.values.Operand.{Operand}
use Rattle.asm_forms.specs.declared.values.Operand.TheVariants.{InRegister, ByRegister, AutoIncrement, AtAddress}
use Rattle.asm_forms.specs.declared.values.Operand.TheVariants.{AtIndexed}
use Rattle.asm_forms.specs.declared.values.Operand.TheVariants.{Number, Bit, To, Following}
use Rattle.asm_forms.specs.declared.ranges.EncodedOperand.{EncodedOperand}
use Rattle.asm_forms.specs.declared.ranges.EncodedOperand.TheVariants.{Located, Addressed, Counted, Displaced, Followed}

abbrev pub model_of_operand : Operand → spec.Operand
model_of_operand (InRegister number) = spec.InRegister number
model_of_operand (ByRegister number) = spec.ByRegister number
model_of_operand (AutoIncrement number) = spec.AutoIncrement number
model_of_operand (AtAddress value) = spec.AtAddress (model_of_value value)
model_of_operand (AtIndexed value number) = spec.AtIndexed (model_of_value value) number
model_of_operand (Number number) = spec.Number number
model_of_operand (Bit number) = spec.Bit number
model_of_operand (To target) = spec.To target
model_of_operand (Following value) = spec.Following (model_of_value value)

-- the word that follows an operand, where one does
abbrev pub no_word : Option expression.Value
no_word = option.None

abbrev pub with_word : Value → Option expression.Value
with_word value = option.Some (model_of_value value)

abbrev pub model_of_ready : EncodedOperand → spec.EncodedOperand
model_of_ready (Located place) = spec.Located place no_word
model_of_ready (Addressed place value) = spec.Located place (with_word value)
model_of_ready (Counted number) = spec.Counted number
model_of_ready (Displaced disp) = spec.Displaced disp
model_of_ready (Followed value) = spec.Followed (model_of_value value)

abbrev pub ready_answer : Result EncodedOperand FormError → Result spec.EncodedOperand FormError
ready_answer (Ok ready) = Ok (model_of_ready ready)
ready_answer (Err cause) = Err cause

abbrev pub readies_answer : Result (UpToTwo EncodedOperand) FormError → Result (List spec.EncodedOperand) FormError
readies_answer (Ok readies) = Ok (items_of model_of_ready readies)
readies_answer (Err cause) = Err cause

-- the parts of an instruction have room in its word
abbrev pub IsReady : EncodedOperand → Type 0
IsReady (Located place) = IsPlace place
IsReady (Addressed place value) = IsPlace place
IsReady (Counted number) = number < 16
IsReady (Displaced disp) = ⊤
IsReady (Followed value) = ⊤

abbrev pub AllReady : UpToTwo EncodedOperand → Type 0
AllReady None = ⊤
AllReady (One ready) = IsReady ready
AllReady (Two first second) = IsReady first × IsReady second
