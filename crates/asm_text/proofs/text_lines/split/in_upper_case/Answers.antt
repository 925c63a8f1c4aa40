use Rattle.std.proofs.Common.{arith}
use Rattle.std.proofs.lemmas.Grind.{common_steps}
use Rattle.asm_text.proofs.Keys.{zeros_stay}
use Rattle.asm_text.proofs.text_lines.split.in_upper_case.Goals as goal

pub loop-at-preserved : goal.loop-at-preserved
loop-at-preserved c = record {
  left = grind (arith, common_steps);
  eight = grind (arith, common_steps);
  zeros = zeros_stay c.loop-at.letters 8 c.loop-at.at _ c.loop-at.invariant.zeros;
  upper = grind (arith, common_steps);
}
