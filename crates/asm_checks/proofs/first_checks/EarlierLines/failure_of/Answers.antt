use Rattle.std.proofs.Common.{sym, ap, ◌∙◌}
use Rattle.asm_text.specs.GivenFields.{model_of_fields, model_of_answer}
use Rattle.asm_checks.specs.Checks.{model_of_earlier_lines}
use Rattle.asm_checks.proofs.Labels.{fails_known, fails_new, fails_unread}
use Rattle.asm_checks.proofs.first_checks.EarlierLines.failure_of.Goals as goal

pub returns-in_default : goal.returns-in_default
returns-in_default c =
    fails_unread (model_of_earlier_lines c.args.self.now) c.args.line.now.text.now c.args.failure c.in_default.field-0
    (sym c.args.line.now.read ∙ ap model_of_answer c.in_default.is) c.requires

pub returns-then-knows_label : goal.returns-then-knows_label
returns-then-knows_label c =
    fails_known (model_of_earlier_lines c.args.self.now) c.args.line.now.text.now (model_of_fields c.in-Ok.found)
    (sym c.args.line.now.read ∙ ap model_of_answer c.in-Ok.is) (sym c.knows_label.ensures ∙ c.if-knows_label.true)

pub returns : goal.returns
returns c =
    fails_new (model_of_earlier_lines c.args.self.now) c.args.line.now.text.now (model_of_fields c.in-Ok.found)
    (sym c.args.line.now.read ∙ ap model_of_answer c.in-Ok.is) c.args.failure (sym c.knows_label.ensures ∙ c.if-knows_label.false) c.requires
