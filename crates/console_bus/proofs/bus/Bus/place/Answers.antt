use Rattle.std.proofs.lemmas.Grind.{common_steps}
use Rattle.std.proofs.Common.{arith}
use Rattle.console_bus.proofs.bus.Bus.place.Goals as goal

pub returns-in-0-to-8191 : goal.returns-in-0-to-8191
returns-in-0-to-8191 c = grind (arith, common_steps)
