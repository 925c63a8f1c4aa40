use Rattle.std.proofs.Common.{rules}
use Rattle.gpl_watch.proofs.range.range_bytes.Goals as goal

pub returns-clause-bytes : goal.returns-clause-bytes
returns-clause-bytes c = search rules
