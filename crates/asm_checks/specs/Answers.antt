-- What calls answer that may run out of memory.
use Rattle.std.specs.Prelude.{◌≡◌, ⊤, Result, Ok, Err}
use Rattle.expression_defs.specs.declared.causes.ExprError.{ExprError}
use Rattle.expression_defs.specs.declared.causes.ExprError.TheVariants as expr
use Rattle.source_defs.specs.declared.causes.OperandError.{OperandError}
use Rattle.source_defs.specs.declared.causes.OperandError.TheVariants as operand
use Rattle.instruction_defs.specs.declared.causes.FormError.{FormError}
use Rattle.instruction_defs.specs.declared.causes.FormError.TheVariants as form
use Rattle.asm_defs.specs.declared.causes.AsmCause.{AsmCause}
use Rattle.asm_defs.specs.declared.causes.AsmCause.TheVariants.{Expr, Form}
use Rattle.asm_checks.specs.declared.failure.Failure.{Failure}
use Rattle.asm_checks.specs.declared.failure.Failure.TheVariants.{Refused, Memory}

-- the cause that the definitions have; none stands for a lack of memory
abbrev pub Causes : {B : Type 0} → AsmCause → Result B AsmCause → Type 0
Causes (Expr expr.Memory) defined = ⊥
Causes (Form form.Memory) defined = ⊥
Causes (Form (form.Expr expr.Memory)) defined = ⊥
Causes cause defined = defined ≡ Err cause

-- what the definitions say, or memory ran out
abbrev pub Fails : {B : Type 0} → Failure → Result B AsmCause → Type 0
Fails Memory defined = ⊤
Fails (Refused cause) defined = Causes cause defined

abbrev pub Gives : {A B : Type 0} → (A → B) → Result A Failure → Result B AsmCause → Type 0
Gives seen (Ok found) defined = defined ≡ Ok (seen found)
Gives seen (Err failure) defined = Fails failure defined

-- what the refusal of an expression is in the line of a directive
abbrev pub expr_failure : ExprError → Failure
expr_failure expr.Memory = Memory
expr_failure error = Refused (Expr error)

-- what the refusal of operands is in the line of a directive
abbrev pub operand_failure : OperandError → Failure
operand_failure operand.Count = Refused (Form form.OperandCount)
operand_failure operand.Form = Refused (Form form.BadOperand)

-- what the refusal of an instruction is in its line
abbrev pub form_failure : FormError → Failure
form_failure form.Memory = Memory
form_failure (form.Expr expr.Memory) = Memory
form_failure error = Refused (Form error)
