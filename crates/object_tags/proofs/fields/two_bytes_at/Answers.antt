use Rattle.std.proofs.Common.{rules}
use Rattle.object_defs.specs.Fields.{two_bytes_at}
use Rattle.object_tags.proofs.fields.two_bytes_at.Goals as goal

pub returns-in-len2-up : goal.returns-in-len2-up
unfolding two_bytes_at
returns-in-len2-up c = search rules
