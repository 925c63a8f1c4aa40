-- What is shown of a line that places nothing.
use Rattle.std.proofs.Common.{◌≡◌, [], false, Ok, Err, refl, sym, ap}
use Rattle.std.specs.Prelude.{Option, Result}
use Rattle.expression_defs.specs.Symbols.{Names}
use Rattle.expression_defs.specs.declared.causes.ExprError.TheVariants as expr
use Rattle.instruction_defs.specs.declared.causes.FormError.TheVariants as form
use Rattle.asm_defs.specs.declared.causes.AsmCause.{AsmCause}
use Rattle.asm_defs.specs.declared.causes.AsmCause.TheVariants as cause
use Rattle.asm_defs.specs.declared.location.Location.{Location}
use Rattle.asm_defs.specs.Statements.{Statement}
use Rattle.asm_defs.specs.SecondChecks.{Outcome, Nothing}
use Rattle.asm_defs.specs.Memory.{is_placed_in}
use Rattle.asm_checks.specs.Answers.{Causes}
use Rattle.asm_list_defs.specs.Listed.{found_or}
use Rattle.bench_shelf.specs.Kept.{shown_by}
use Rattle.asm_list_defs.specs.Rows.{outcome_text}

pub dummy_text : (at : Location) (answer : Result Outcome AsmCause) → is_placed_in at.part ≡ false → [] ≡ outcome_text (found_or at answer)
unfolding outcome_text
dummy_text at (Ok found) e = rw e refl
dummy_text at (Err cause) e = refl

none_text : (at : Location) (cause : AsmCause) (answer : Result Outcome AsmCause) → answer ≡ Err cause → [] ≡ outcome_text (found_or at answer)
unfolding outcome_text
none_text at cause answer is = ap (λ answer. outcome_text (found_or at answer)) (sym is)

pub refused_text : (at : Location) (cause : AsmCause) (answer : Result Outcome AsmCause) → Causes cause answer → [] ≡ outcome_text (found_or at answer)
refused_text at (cause.Expr expr.Memory) answer is = absurd is
refused_text at (cause.Form form.Memory) answer is = absurd is
refused_text at (cause.Form (form.Expr expr.Memory)) answer is = absurd is
refused_text at _ answer is = none_text at _ answer is

-- nothing is shown of a line that says nothing
pub nothing_parsed : (known : Option Names) (at : Location) (origin : Option Location) (cause : AsmCause) (answer : Result Statement AsmCause) → Causes cause answer
    → record { at = at; outcome = Nothing } ≡ shown_by known at origin answer
nothing_parsed known at origin (cause.Expr expr.Memory) answer is = absurd is
nothing_parsed known at origin (cause.Form form.Memory) answer is = absurd is
nothing_parsed known at origin (cause.Form (form.Expr expr.Memory)) answer is = absurd is
nothing_parsed known at origin _ answer is = ap (shown_by known at origin) (sym is)

pub nothing_text : [] ≡ outcome_text Nothing
unfolding outcome_text
nothing_text = refl
