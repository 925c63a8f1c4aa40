use Rattle.sim_misc.proofs.Borders
use Rattle.sim_misc.proofs.Dispatch.{entered}
use Rattle.sim_misc.proofs.border.run_border.Goals as goal

pub set_border-requires : goal.set_border-requires
set_border-requires g c = entered _ _ c.requires.border c.requires.is_at

pub returns : goal.returns
returns g c = Borders.borders c.requires.dispatched c.requires.border (entered _ _ c.requires.border c.requires.is_at) c.set_border.ensures
