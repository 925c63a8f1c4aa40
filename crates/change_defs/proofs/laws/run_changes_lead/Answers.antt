use Rattle.change_defs.proofs.RunLead as law
use Rattle.change_defs.proofs.laws.run_changes_lead.Goals as goal

pub returns : goal.returns
returns c = law.run_changes_lead
