use Rattle.std.proofs.Common.{arith}
use Rattle.source_defs.proofs.LineSteps.{line_steps}
use Rattle.source_defs.proofs.LeastLaws.{least_bounds}
use Rattle.asm_text.proofs.text_lines.line_iter.LinesIterator.next.Goals as goal

pub returns-then-self-clause-steps : goal.returns-then-self-clause-steps
returns-then-self-clause-steps c = grind (arith, line_steps, least_bounds)
