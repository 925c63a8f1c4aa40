use Rattle.std.proofs.Common.{rules}
use Rattle.vdp_ports.proofs.vdp.Vdp.write_data.Goals as goal

pub returns : goal.returns
returns c = search rules
