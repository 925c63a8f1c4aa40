use Rattle.std.proofs.Common.{rules}
use Rattle.object_tags.proofs.groups.compared.Goals as goal

pub returns-else-found-computed : goal.returns-else-found-computed
returns-else-found-computed c = search rules
