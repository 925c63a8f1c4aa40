use Rattle.gpl_step_defs.proofs.RunLaws as law
use Rattle.gpl_step_defs.proofs.laws.runs_are_steps.Goals as goal

pub returns : goal.returns
returns c = law.runs_are_steps
