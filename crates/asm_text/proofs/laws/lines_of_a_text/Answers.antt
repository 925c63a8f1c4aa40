use Rattle.source_defs.proofs.LineLaws.{lines_are_lines}
use Rattle.asm_text.proofs.laws.lines_of_a_text.Goals as goal

pub returns : goal.returns
returns c = lines_are_lines
