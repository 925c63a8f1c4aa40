use Rattle.std.proofs.Common.{rules}
use Rattle.object_tags.proofs.writer.Writer.new.Goals as goal

pub returns-clause-number : goal.returns-clause-number
returns-clause-number c = search rules
