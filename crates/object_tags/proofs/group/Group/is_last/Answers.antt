use Rattle.std.proofs.Common.{rules}
use Rattle.object_tags.proofs.group.Group.is_last.Goals as goal

pub returns-in_default : goal.returns-in_default
returns-in_default c = search rules
