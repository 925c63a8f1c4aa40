use Rattle.tms_defs.proofs.ByteLaws.{replicated_zeros}
use Rattle.console_bus.proofs.bus.zero_page.Goals as goal

pub returns : goal.returns
returns c = replicated_zeros 256
