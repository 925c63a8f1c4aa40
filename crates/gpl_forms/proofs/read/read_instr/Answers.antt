use Rattle.gpl_defs.proofs.MeaningLaws.{reading_means}
use Rattle.gpl_forms.proofs.read.read_instr.Goals as goal

pub returns-clause-means : goal.returns-clause-means
returns-clause-means c = rw c.read_at.ensures (reading_means c.args.image.now c.args.at c.holds_bytes.ensures)
