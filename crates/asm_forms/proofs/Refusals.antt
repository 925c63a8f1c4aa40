-- What a refusal of an expression is in a line.
use Rattle.std.proofs.Common.{Err, ap}
use Rattle.std.specs.Prelude.{Result}
use Rattle.expression_defs.specs.declared.causes.ExprError.{ExprError}
use Rattle.expression_defs.specs.declared.causes.ExprError.TheVariants as expr
use Rattle.instruction_defs.specs.SecondChecks.{as_form_error}
use Rattle.asm_text.specs.Yielded.{Yields}
use Rattle.asm_forms.specs.Answers.{Refuses, refused}

pub expr_refuses : {A B : Type 0} (see : A → B) (error : ExprError) (found : Result B ExprError) → Yields see (Err error) found
    → Refuses (refused error) (as_form_error found)
expr_refuses see expr.BadToken found e = ap as_form_error e
expr_refuses see expr.UnknownName found e = ap as_form_error e
expr_refuses see expr.BadRelocation found e = ap as_form_error e
expr_refuses see expr.TooLarge found e = ap as_form_error e
expr_refuses see expr.DivideByZero found e = ap as_form_error e
expr_refuses see expr.Memory found e = tt
