use Rattle.std.proofs.Common.{rules}
use Rattle.grom_counter.proofs.grom.Grom.write_address.Goals as goal

pub returns-else-self : goal.returns-else-self
returns-else-self c = search rules
