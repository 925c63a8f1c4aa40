use Rattle.std.proofs.Common.{rules}
use Rattle.vdp_ports.proofs.vdp.Vdp.end_pair.Goals as goal

pub returns-in-2 : goal.returns-in-2
returns-in-2 c = search rules

pub returns-in-0 : goal.returns-in-0
returns-in-0 c = search rules

pub returns-in-1 : goal.returns-in-1
returns-in-1 c = search rules
