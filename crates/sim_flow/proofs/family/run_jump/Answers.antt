use Rattle.std.proofs.Common.{refl}
use Rattle.sim_flow.proofs.Jumps
use Rattle.sim_flow.proofs.family.run_jump.Goals as goal

pub jump-requires : goal.jump-requires
jump-requires g c = c.read_target.ensures.is_at

pub returns : goal.returns
returns g c =
    Jumps.jumps _ _ c.requires.dispatched refl c.requires.is c.requires.is_at c.read_target.ensures c.jump.ensures
