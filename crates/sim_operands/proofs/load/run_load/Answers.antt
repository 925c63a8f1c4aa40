use Rattle.sim_operands.proofs.Routines.{loads_stream, loads_value}
use Rattle.sim_operands.proofs.load.run_load.Goals as goal

pub returns-clause-value : goal.returns-clause-value
returns-clause-value g c = λ small.
    loads_value c.requires.is_at.machine c.requires.idle c.requires.visible small c.load_routine.ensures

pub returns-clause-stream : goal.returns-clause-stream
returns-clause-stream g c = λ large fetched.
    loads_stream c.requires.is_at.machine c.requires.idle large fetched c.load_routine.ensures
