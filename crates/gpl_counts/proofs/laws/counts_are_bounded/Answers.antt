use Rattle.gpl_counts.proofs.Bounds as law
use Rattle.gpl_counts.proofs.laws.counts_are_bounded.Goals as goal

pub returns : goal.returns
returns c = law.counts_are_bounded
