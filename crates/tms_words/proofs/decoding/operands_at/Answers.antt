use Rattle.std.proofs.lemmas.Grind.{common_steps}
use Rattle.std.proofs.Common.{arith}
use Rattle.tms_words.proofs.decoding.operands_at.Goals as goal

pub returns-in-Jump : goal.returns-in-Jump
returns-in-Jump c = grind (arith, common_steps)
