use Rattle.machine_change_defs.proofs.MemoryLead as law
use Rattle.machine_change_defs.proofs.laws.changes_give_memory.Goals as goal

pub returns : goal.returns
returns c = law.changes_give_memory
