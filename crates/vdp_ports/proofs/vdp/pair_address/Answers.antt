use Rattle.std.proofs.Common.{rules}
use Rattle.vdp_ports.proofs.vdp.pair_address.Goals as goal

pub returns-clause-address : goal.returns-clause-address
returns-clause-address c = search rules
