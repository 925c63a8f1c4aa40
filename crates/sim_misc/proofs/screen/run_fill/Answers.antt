use Rattle.std.proofs.Common.{◌≡◌, arith}
use Rattle.sim_misc.proofs.Dispatch.{entered}
use Rattle.sim_misc.proofs.Fills
use Rattle.sim_misc.proofs.screen.run_fill.Goals as goal

pub begin_fill-requires : goal.begin_fill-requires
begin_fill-requires g c = entered _ _ c.requires.fill c.requires.is_at

pub loop-init : goal.loop-init
loop-init g c = Fills.none_yet c.requires.dispatched c.begin_fill.ensures

pub fill_byte-requires : goal.fill_byte-requires
fill_byte-requires g c = Fills.is_at_address c.loop.counter c.loop.invariant c.loop-test.true

pub loop-preserved : goal.loop-preserved
loop-preserved g c =
    Fills.one_byte c.loop.counter (entered _ _ c.requires.fill c.requires.is_at) c.requires.dispatched c.loop.invariant c.loop-test.true
    c.fill_byte.ensures

pub returns : goal.returns
returns g c =
    let all : c.loop.counter ≡ 768 = let a = c.loop-test.false in let b = c.loop.auto.counter-end in omega arith in
    Fills.fills (entered _ _ c.requires.fill c.requires.is_at) c.requires.dispatched c.requires.fill c.loop.counter all c.loop.invariant
