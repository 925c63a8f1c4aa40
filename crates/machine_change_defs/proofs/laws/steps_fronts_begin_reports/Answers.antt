use Rattle.machine_change_defs.proofs.ReportLaws as law
use Rattle.machine_change_defs.proofs.laws.steps_fronts_begin_reports.Goals as goal

pub returns : goal.returns
returns c = law.steps_fronts_begin_reports
