use Rattle.asm_core.proofs.OutputLaws.{on_err}
use Rattle.asm_core.proofs.WorkLaws.{prepared}
use Rattle.asm_core.proofs.lines.AsmLines.count.Goals as goal

pub returns-in_err-prepare-clause-unchanged : goal.returns-in_err-prepare-clause-unchanged
returns-in_err-prepare-clause-unchanged c =
    on_err c.from_residual.result (prepared c.args.self.now c.prepare.new.self c.prepare.ensures.lines c.prepare.ensures.image)
