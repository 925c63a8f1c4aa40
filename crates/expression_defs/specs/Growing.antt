-- What is known of an expression while names are still to come.
use Rattle.std.specs.Prelude.{◌≡◌, ℕ, Bool, true, false, not, List, Some, Result, Ok, Err}
use Rattle.expression_defs.specs.declared.causes.ExprError.{ExprError}
use Rattle.expression_defs.specs.declared.causes.ExprError.TheVariants.{BadToken, UnknownName, BadRelocation, TooLarge}
use Rattle.expression_defs.specs.declared.causes.ExprError.TheVariants.{DivideByZero, Memory}
use Rattle.expression_defs.specs.Expression.{Value}
use Rattle.expression_defs.specs.Symbols.{Names, look_up}

-- what stands for something goes on to do so
abbrev pub Grows : Names → Names → Type 0
Grows old new = (name : List ℕ) (value : Value) → look_up old name ≡ Some value → look_up new name ≡ Some value

-- a refusal that more names may lift
abbrev pub is_unresolved : ExprError → Bool
is_unresolved UnknownName = true
is_unresolved BadToken = false
is_unresolved BadRelocation = false
is_unresolved TooLarge = false
is_unresolved DivideByZero = false
is_unresolved Memory = false

-- an answer that more names leave as it is, by the refusals that they may lift
abbrev pub is_closed : {A E : Type 0} → (E → Bool) → Result A E → Bool
is_closed lifts (Ok value) = true
is_closed lifts (Err cause) = not (lifts cause)
