use Rattle.std.proofs.Common.{rules}
use Rattle.object_tags.proofs.spots.even.Goals as goal

pub returns-in-Absolute : goal.returns-in-Absolute
returns-in-Absolute c = search rules
