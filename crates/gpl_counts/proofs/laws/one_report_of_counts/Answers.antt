use Rattle.gpl_counts.proofs.OneCounts as law
use Rattle.gpl_counts.proofs.laws.one_report_of_counts.Goals as goal

pub returns : goal.returns
returns c = law.one_report_of_counts
