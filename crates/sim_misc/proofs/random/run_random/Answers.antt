use Rattle.sim_misc.proofs.Dispatch.{entered}
use Rattle.sim_misc.proofs.RandomNumbers
use Rattle.sim_misc.proofs.random.run_random.Goals as goal

pub draw_seed-requires : goal.draw_seed-requires
draw_seed-requires g c = entered _ _ c.requires.random c.requires.is_at

pub draw_number-requires : goal.draw_number-requires
draw_number-requires g c = c.draw_seed.ensures.is_at

pub returns : goal.returns
returns g c =
    RandomNumbers.draws c.requires.dispatched c.requires.random (entered _ _ c.requires.random c.requires.is_at) c.draw_seed.ensures c.draw_number.ensures
