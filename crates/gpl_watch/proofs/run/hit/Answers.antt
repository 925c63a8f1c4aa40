use Rattle.std.proofs.Common.{rules}
use Rattle.gpl_watch.proofs.run.hit.Goals as goal

pub returns : goal.returns
returns c = search rules
