use Rattle.std.proofs.Common.{rules}
use Rattle.grom_counter.proofs.grom.Grom.read_address.Goals as goal

pub returns : goal.returns
returns c = search rules
