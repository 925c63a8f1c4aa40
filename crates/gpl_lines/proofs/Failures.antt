-- What a refusal of an expression is in a line.
use Rattle.std.proofs.Common.{◌≡◌, Err}
use Rattle.std.specs.Prelude.{Result}
use Rattle.expression_defs.specs.declared.causes.ExprError.{ExprError}
use Rattle.expression_defs.specs.declared.causes.ExprError.TheVariants as expr
use Rattle.gpl_source_defs.specs.declared.causes.GplCause.{GplCause}
use Rattle.gpl_source_defs.specs.declared.causes.GplCause.TheVariants.{Expr}
use Rattle.gpl_lines.specs.Answers.{Fails, expr_failure}

pub expr_fails : {B : Type 0} (error : ExprError) (defined : Result B GplCause) → defined ≡ Err (Expr error) → Fails (expr_failure error) defined
expr_fails expr.BadToken defined e = (e, tt)
expr_fails expr.UnknownName defined e = (e, tt)
expr_fails expr.BadRelocation defined e = (e, tt)
expr_fails expr.TooLarge defined e = (e, tt)
expr_fails expr.DivideByZero defined e = (e, tt)
expr_fails expr.Memory defined e = tt
