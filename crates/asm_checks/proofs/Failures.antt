-- What a refusal of an expression or an instruction is in a line.
use Rattle.std.proofs.Common.{◌≡◌, Err}
use Rattle.std.specs.Prelude.{Result}
use Rattle.expression_defs.specs.declared.causes.ExprError.{ExprError}
use Rattle.expression_defs.specs.declared.causes.ExprError.TheVariants as expr
use Rattle.instruction_defs.specs.declared.causes.FormError.{FormError}
use Rattle.instruction_defs.specs.declared.causes.FormError.TheVariants as form
use Rattle.asm_defs.specs.declared.causes.AsmCause.{AsmCause}
use Rattle.asm_defs.specs.declared.causes.AsmCause.TheVariants.{Expr, Form}
use Rattle.asm_defs.specs.declared.causes.AsmCause.TheVariants as cause
use Rattle.asm_checks.specs.Answers.{Causes, Fails, expr_failure, form_failure}

pub expr_fails : {B : Type 0} (error : ExprError) (defined : Result B AsmCause) → defined ≡ Err (Expr error) → Fails (expr_failure error) defined
expr_fails expr.Memory defined e = tt
expr_fails _ defined e = e

pub form_fails : {B : Type 0} (error : FormError) (defined : Result B AsmCause) → defined ≡ Err (Form error) → Fails (form_failure error) defined
form_fails form.Memory defined e = tt
form_fails (form.Expr expr.Memory) defined e = tt
form_fails _ defined e = e

-- the cause that the definitions have is theirs
pub caused : {B : Type 0} (refused : AsmCause) (defined : Result B AsmCause) → Causes refused defined → defined ≡ Err refused
caused (cause.Expr expr.Memory) defined causes = absurd causes
caused (cause.Form form.Memory) defined causes = absurd causes
caused (cause.Form (form.Expr expr.Memory)) defined causes = absurd causes
caused _ defined causes = causes

-- and it goes on to what is made of their answer
pub causes_on : {A B : Type 0} (refused : AsmCause) (first : Result A AsmCause) (second : Result B AsmCause) → Causes refused first
    → (first ≡ Err refused → second ≡ Err refused) → Causes refused second
causes_on (cause.Expr expr.Memory) first second causes goes = absurd causes
causes_on (cause.Form form.Memory) first second causes goes = absurd causes
causes_on (cause.Form (form.Expr expr.Memory)) first second causes goes = absurd causes
causes_on _ first second causes goes = goes causes
