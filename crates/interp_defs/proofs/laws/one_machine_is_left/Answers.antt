use Rattle.interp_defs.proofs.OneMachine as machine
use Rattle.interp_defs.proofs.laws.one_machine_is_left.Goals as goal

pub returns : goal.returns
returns g = machine.one_machine_is_left
