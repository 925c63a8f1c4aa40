use Rattle.std.proofs.Common.{rules}
use Rattle.console_bus.proofs.bus.Bus.read_port.Goals as goal

pub returns-in-38914 : goal.returns-in-38914
returns-in-38914 c = search rules

pub returns-in-34818 : goal.returns-in-34818
returns-in-34818 c = search rules
