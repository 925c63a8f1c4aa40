use Rattle.machine_change_defs.proofs.ReportLaws as law
use Rattle.machine_change_defs.proofs.laws.one_steps_report.Goals as goal

pub returns : goal.returns
returns c = law.one_steps_report
