-- What calls that value an expression answer.
use Rattle.std.specs.Prelude.{◌≡◌, ⊤, Result, Ok, Err}
use Rattle.expression_defs.specs.declared.causes.ExprError.{ExprError}
use Rattle.expression_defs.specs.declared.causes.ExprError.TheVariants.{Memory}

-- the value of an expression, as the definitions have it; or memory ran out
abbrev pub Yields : {A B : Type 0} → (A → B) → Result A ExprError → Result B ExprError → Type 0
Yields see (Ok value) defined = defined ≡ Ok (see value)
Yields see (Err Memory) defined = ⊤
Yields see (Err error) defined = defined ≡ Err error
