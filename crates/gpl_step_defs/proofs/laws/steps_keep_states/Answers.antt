use Rattle.gpl_step_defs.proofs.KeptSteps as law
use Rattle.gpl_step_defs.proofs.laws.steps_keep_states.Goals as goal

pub returns : goal.returns
returns c = law.steps_keep_states
