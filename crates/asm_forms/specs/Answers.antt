-- What calls answer that may run out of memory.
use Rattle.std.specs.Prelude.{◌≡◌, ⊤, Result, Ok, Err}
use Rattle.expression_defs.specs.declared.causes.ExprError.{ExprError}
use Rattle.expression_defs.specs.declared.causes.ExprError.TheVariants as expr
use Rattle.instruction_defs.specs.declared.causes.FormError.{FormError}
use Rattle.instruction_defs.specs.declared.causes.FormError.TheVariants.{Expr, Memory}

-- what the definitions say, or memory ran out; no other answer stands for that
abbrev pub Refuses : {B : Type 0} → FormError → Result B FormError → Type 0
Refuses Memory defined = ⊤
Refuses (Expr expr.Memory) defined = ⊥
Refuses cause defined = defined ≡ Err cause

abbrev pub Gives : {A B : Type 0} → (A → B) → Result A FormError → Result B FormError → Type 0
Gives seen (Ok found) defined = defined ≡ Ok (seen found)
Gives seen (Err cause) defined = Refuses cause defined

-- what the refusal of an expression is in a line
abbrev pub refused : ExprError → FormError
refused expr.Memory = Memory
refused cause = Expr cause
