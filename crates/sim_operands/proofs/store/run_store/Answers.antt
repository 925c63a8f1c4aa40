use Rattle.sim_operands.proofs.Routines.{stores_register, stores_value}
use Rattle.sim_operands.proofs.store.run_store.Goals as goal

pub returns-clause-value : goal.returns-clause-value
returns-clause-value g c = λ small.
    stores_value c.requires.is_at.machine c.requires.idle c.requires.visible small c.store_routine.ensures

pub returns-clause-register : goal.returns-clause-register
returns-clause-register g c = λ large number.
    stores_register c.requires.is_at.machine c.requires.idle large number c.store_routine.ensures
