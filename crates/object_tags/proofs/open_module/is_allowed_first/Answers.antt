use Rattle.std.proofs.Common.{rules}
use Rattle.object_tags.proofs.open_module.is_allowed_first.Goals as goal

pub returns-in-Some-Header-2 : goal.returns-in-Some-Header-2
returns-in-Some-Header-2 c = search rules
