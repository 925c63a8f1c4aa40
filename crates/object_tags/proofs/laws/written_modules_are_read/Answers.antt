use Rattle.object_laws.proofs.Written as law
use Rattle.object_tags.proofs.laws.written_modules_are_read.Goals as goal

pub returns : goal.returns
returns c = law.written_modules_are_read
