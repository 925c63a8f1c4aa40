use Rattle.std.proofs.Common.{ℕ, ◌<◌, ◌≡◌, arith, subst}
use Rattle.sim_rows.proofs.Common.{view}
use Rattle.sim_move.proofs.Turns.{Turns}
use Rattle.sim_move.proofs.Turns
use Rattle.sim_move.proofs.copy.copy_rest.Goals as goal

pub loop-init : goal.loop-init
loop-init g c = Turns.none_yet c.args.machine.now c.args.steps.now c.requires

pub loop-preserved : goal.loop-preserved
loop-preserved g c =
    let less : c.loop.counter < (view c.args.machine.now).r.r12 = subst (λ (n : ℕ). c.loop.counter < n) c.register-bytes.ensures c.loop-test.true in
    Turns.one_more_turn c.copy_byte.new.machine c.copy_byte.new.steps c.loop.invariant less c.copy_byte.ensures

pub returns-clause-copies : goal.returns-clause-copies
returns-clause-copies g c =
    let x = c.args.machine.now in
    let bytes = c.register-bytes.ensures in
    let all : c.loop.counter ≡ (view x).r.r12 = let a = c.loop-test.false in let b = c.loop.auto.counter-end in omega arith in
    Turns.copies_rest x c.loop.machine c.args.steps.now c.loop.steps
    (subst (λ (made : ℕ). Turns made x c.loop.machine c.args.steps.now c.loop.steps) all c.loop.invariant)
