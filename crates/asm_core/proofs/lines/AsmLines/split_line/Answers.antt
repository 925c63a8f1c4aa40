use Rattle.std.proofs.Common.{sym, ◌∙◌}
use Rattle.asm_core.proofs.TakenLaws.{takes_text}
use Rattle.asm_core.proofs.lines.AsmLines.split_line.Goals as goal

pub returns-clause-texts : goal.returns-clause-texts
returns-clause-texts c = λ texts taken.
    takes_text texts c.args.line.now.text.now c.args.self.now c.take.new.self taken (sym taken.after_lines.ended ∙ c.requires.open) c.take.result
    (c.take.ensures taken.lines taken.after_lines)
