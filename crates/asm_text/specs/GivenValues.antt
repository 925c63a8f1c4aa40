-- What `value` gives, in the terms of the definitions.
use Rattle.std.specs.Prelude.{⊤, Result, Ok, Err}
use Rattle.expression_defs.specs.declared.causes.ExprError.{ExprError}
use Rattle.expression_defs.specs.Expression as defined
use Rattle.asm_text.specs.declared.expressions.values.Value.{Value}
use Rattle.asm_text.specs.declared.expressions.values.Value.TheVariants.{Absolute, Relocatable, External}

-- a value, with the name seen as its bytes
abbrev pub model_of_value : Value → defined.Value
model_of_value (Absolute number) = defined.Absolute number
model_of_value (Relocatable place) = defined.Relocatable place
model_of_value (External name) = defined.External name

-- the definition's answer
abbrev pub model_of_value_answer : Result Value ExprError → Result defined.Value ExprError
model_of_value_answer (Ok value) = Ok (model_of_value value)
model_of_value_answer (Err cause) = Err cause

-- a place in a line is a number, and no external name
abbrev pub IsNotExternal : Value → Type 0
IsNotExternal (Absolute number) = ⊤
IsNotExternal (Relocatable place) = ⊤
IsNotExternal (External name) = ⊥
