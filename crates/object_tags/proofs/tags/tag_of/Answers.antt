use Rattle.std.proofs.Common.{rules}
use Rattle.object_defs.specs.Tags.{tag_of}
use Rattle.object_tags.proofs.tags.tag_of.Goals as goal

pub returns-in-51 : goal.returns-in-51
unfolding tag_of
returns-in-51 c = search rules
