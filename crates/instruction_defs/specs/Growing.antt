-- What is known of an instruction line while names are still to come.
use Rattle.std.specs.Prelude.{Bool, false}
use Rattle.expression_defs.specs.Growing as expressions
use Rattle.instruction_defs.specs.declared.causes.FormError.{FormError}
use Rattle.instruction_defs.specs.declared.causes.FormError.TheVariants.{UnknownOperation, OperandCount, BadOperand}
use Rattle.instruction_defs.specs.declared.causes.FormError.TheVariants.{JumpTooFar}
use Rattle.instruction_defs.specs.declared.causes.FormError.TheVariants.{Expr, Memory}

-- a refusal that more names may lift
abbrev pub is_unresolved : FormError → Bool
is_unresolved (Expr cause) = expressions.is_unresolved cause
is_unresolved UnknownOperation = false
is_unresolved OperandCount = false
is_unresolved BadOperand = false
is_unresolved JumpTooFar = false
is_unresolved Memory = false
