use Rattle.std.proofs.Common.{rules}
use Rattle.console_bus.proofs.bus.Bus.set_cell.Goals as goal

pub returns : goal.returns
returns c = search rules
