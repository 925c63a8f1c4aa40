use Rattle.std.proofs.Common.{rules}
use Rattle.vdp_ports.proofs.vdp.next_address.Goals as goal

pub returns-clause-next : goal.returns-clause-next
returns-clause-next c = search rules
