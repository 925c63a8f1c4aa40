use Rattle.std.proofs.Common.{rules}
use Rattle.object_defs.specs.Fields.{digits_at}
use Rattle.object_tags.proofs.fields.digits_at.Goals as goal

pub returns-then-digits-lt4 : goal.returns-then-digits-lt4
unfolding digits_at
returns-then-digits-lt4 c = search rules
