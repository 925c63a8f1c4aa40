use Rattle.std.proofs.Common.{sym, ◌∙◌}
use Rattle.gpl_asm.proofs.TakenLaws.{takes_text}
use Rattle.gpl_asm.proofs.lines.GplLines.line.Goals as goal

pub returns-clause-texts : goal.returns-clause-texts
returns-clause-texts c = λ texts taken.
    takes_text texts c.args.line.now c.args.self.now c.take.new.self taken (sym taken.after_lines.ended ∙ c.requires.open) c.take.result
    (rw c.split_line.ensures at (c.take.ensures.takes taken.lines taken.after_lines))
