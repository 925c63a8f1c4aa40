use Rattle.std.proofs.Common.{subst, ◌∙◌}
use Rattle.expression_defs.specs.Symbols.{look_up}
use Rattle.asm_defs.specs.SecondChecks.{Outcome, outcome}
use Rattle.asm_checks.specs.Answers.{Fails}
use Rattle.asm_checks.specs.Defined.{model_of_statement}
use Rattle.asm_checks.specs.declared.failure.Failure.{Failure}
use Rattle.asm_list.proofs.ShownLaws.{refused_text}
use Rattle.asm_list.proofs.shown.placed_text.Goals as goal

pub returns-in-Err-Refused : goal.returns-in-Err-Refused
returns-in-Err-Refused c =
    let scope = c.args.scope.now in
    let answer = outcome (look_up scope.symbols.now) scope.at (model_of_statement c.args.statement.now) in
    c.new-in-Err-Refused.ensures.items
    ∙ refused_text scope.at c.in-Err-Refused.field-0-0 answer
    (subst (λ (failure : Failure). Fails {B = Outcome} failure answer) c.in-Err-Refused.field-0-is c.in-Err-Refused.ensures)
