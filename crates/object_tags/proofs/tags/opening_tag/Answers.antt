use Rattle.std.proofs.Common.{rules}
use Rattle.object_tags.proofs.tags.opening_tag.Goals as goal

pub returns-in-Compressed : goal.returns-in-Compressed
returns-in-Compressed c = search rules
