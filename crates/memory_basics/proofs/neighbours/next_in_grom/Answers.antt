use Rattle.std.proofs.Common.{rules}
use Rattle.memory_basics.proofs.neighbours.next_in_grom.Goals as goal

pub returns-clause-next : goal.returns-clause-next
returns-clause-next c = search rules
