use Rattle.change_defs.proofs.Lead as law
use Rattle.change_defs.proofs.laws.changes_lead.Goals as goal

pub returns : goal.returns
returns c = law.changes_lead
