-- The text of a source that is refused: the number of the line, from 1, and its cause.
--
-- Profile: each cause has a text of its own.
use Rattle.std.specs.Prelude.{ℕ, List, codes}
use Rattle.source_defs.specs.Refusals.{Refusal}
use Rattle.source_defs.specs.declared.causes.TextError.{TextError}
use Rattle.source_defs.specs.declared.causes.TextError.TheVariants.{LineTooLong, BadLabel}
use Rattle.expression_defs.specs.declared.causes.ExprError.{ExprError}
use Rattle.expression_defs.specs.declared.causes.ExprError.TheVariants as expr
use Rattle.instruction_defs.specs.declared.causes.FormError.{FormError}
use Rattle.instruction_defs.specs.declared.causes.FormError.TheVariants as form
use Rattle.asm_defs.specs.declared.causes.AsmCause.{AsmCause}
use Rattle.asm_defs.specs.declared.causes.AsmCause.TheVariants as asm
use Rattle.gpl_source_defs.specs.declared.causes.GplCause.{GplCause}
use Rattle.gpl_source_defs.specs.declared.causes.GplCause.TheVariants as gpl
use Rattle.report_defs.specs.FaultLine.{refusal_line}

abbrev pub text_error_text : TextError → List ℕ
text_error_text LineTooLong = codes "line too long"
text_error_text BadLabel = codes "bad label"

-- a lack of memory is no cause, and no line reports it
abbrev pub expr_error_text : ExprError → List ℕ
expr_error_text expr.BadToken = codes "bad token"
expr_error_text expr.UnknownName = codes "unknown name"
expr_error_text expr.BadRelocation = codes "bad relocation"
expr_error_text expr.TooLarge = codes "number too large"
expr_error_text expr.DivideByZero = codes "division by zero"
expr_error_text expr.Memory = codes "out of memory"

abbrev pub form_error_text : FormError → List ℕ
form_error_text form.UnknownOperation = codes "unknown operation"
form_error_text form.OperandCount = codes "operand count"
form_error_text form.BadOperand = codes "bad operand"
form_error_text form.JumpTooFar = codes "jump too far"
form_error_text (form.Expr error) = expr_error_text error
form_error_text form.Memory = codes "out of memory"

abbrev pub asm_cause_text : AsmCause → List ℕ
asm_cause_text (asm.Text error) = text_error_text error
asm_cause_text (asm.Expr error) = expr_error_text error
asm_cause_text (asm.Form error) = form_error_text error
asm_cause_text asm.DuplicateLabel = codes "duplicate label"
asm_cause_text asm.BadDirective = codes "bad directive"
asm_cause_text asm.Overflow = codes "out of room"
asm_cause_text asm.Overlap = codes "overlap"

abbrev pub asm_line : Refusal AsmCause → List ℕ
asm_line refused = refusal_line refused.line (asm_cause_text refused.cause)

abbrev pub gpl_cause_text : GplCause → List ℕ
gpl_cause_text gpl.UnknownOperation = codes "unknown operation"
gpl_cause_text gpl.OperandCount = codes "operand count"
gpl_cause_text gpl.BadOperand = codes "bad operand"
gpl_cause_text gpl.OtherGrom = codes "other grom"
gpl_cause_text gpl.GromFull = codes "out of room"
gpl_cause_text gpl.DuplicateLabel = codes "duplicate label"
gpl_cause_text (gpl.Expr error) = expr_error_text error
gpl_cause_text (gpl.Text error) = text_error_text error
gpl_cause_text gpl.Overlap = codes "overlap"
gpl_cause_text gpl.BadDirective = codes "bad directive"

abbrev pub gpl_line : Refusal GplCause → List ℕ
gpl_line refused = refusal_line refused.line (gpl_cause_text refused.cause)
