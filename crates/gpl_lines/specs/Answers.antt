-- What calls answer that may run out of memory.
use Rattle.std.specs.Prelude.{◌≡◌, ⊤, Result, Ok, Err}
use Rattle.expression_defs.specs.declared.causes.ExprError.{ExprError}
use Rattle.expression_defs.specs.declared.causes.ExprError.TheVariants as expr
use Rattle.gpl_source_defs.specs.declared.causes.GplCause.{GplCause}
use Rattle.gpl_source_defs.specs.declared.causes.GplCause.TheVariants.{Expr}
use Rattle.gpl_lines.specs.declared.failure.Failure.{Failure}
use Rattle.gpl_lines.specs.declared.failure.Failure.TheVariants.{Refused, Memory}

-- a cause that does not stand for a lack of memory
abbrev pub NoMemory : GplCause → Type 0
NoMemory (Expr expr.Memory) = ⊥
NoMemory _ = ⊤

-- what the definitions refuse, or memory ran out
abbrev pub Fails : {B : Type 0} → Failure → Result B GplCause → Type 0
Fails Memory defined = ⊤
Fails (Refused cause) defined = (defined ≡ Err cause) × NoMemory cause

-- what the definitions say, or memory ran out
abbrev pub Gives : {A B : Type 0} → (A → B) → Result A Failure → Result B GplCause → Type 0
Gives seen (Ok found) defined = defined ≡ Ok (seen found)
Gives seen (Err failure) defined = Fails failure defined

-- what the refusal of an expression is in its line
abbrev pub expr_failure : ExprError → Failure
expr_failure expr.Memory = Memory
expr_failure error = Refused (Expr error)
