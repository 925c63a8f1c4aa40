use Rattle.std.proofs.lemmas.Grind.{common_steps}
use Rattle.std.proofs.Common.{arith}
use Rattle.grom_counter.proofs.grom.Grom.fetch_ahead.Goals as goal

pub returns : goal.returns
returns c = grind (arith, common_steps)
