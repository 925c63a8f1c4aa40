use Rattle.std.proofs.Common.{◌≡◌, ◌+◌, ◌-◌, ◌≤◌, ◌<◌, ℕ, Bool, true, false, refl, sym, ap, ◌∙◌, arith, Option, None}
use Rattle.console_defs.specs.Machine.{machine_step}
use Rattle.console_defs.specs.Runs.{is_reached}
use Rattle.tms_defs.specs.declared.step_end.StepEnd.{StepEnd}
use Rattle.tms_defs.specs.declared.step_end.StepEnd.TheVariants.{Done, Refused, Port}
use Rattle.tms_step.specs.Turns.{executed_by, end_of_turn, end_at_limit}
use Rattle.tms_step.proofs.RunEnds.{going_start, going_more, run_reached, run_ended, run_at_limit}
use Rattle.tms_step.proofs.machine.Machine.run.Goals as goal

-- a step that does not end the run executed one instruction
one_tick : (end : StepEnd) → end_of_turn end ≡ None → executed_by end ≡ 1
one_tick (Done word) none = refl
one_tick (Refused address) none = absurd (cc)
one_tick (Port address) none = absurd (cc)

-- a step executes one instruction at most
one_at_most : (end : StepEnd) → executed_by end ≤ 1
one_at_most (Done word) = omega arith
one_at_most (Refused address) = omega arith
one_at_most (Port address) = omega arith

within : (spent made ticks limit : ℕ) → spent ≡ made + ticks → ticks ≤ 1 → made < limit → spent ≤ limit
within spent made ticks limit is few below = omega arith

steps_more : (start now new made ticks : ℕ) → now ≡ start + made → new ≡ now + ticks → ticks ≡ 1 → new
    ≡ start + (made + 1)
steps_more start now new made ticks before is one = omega arith

risen : (start now new made ticks : ℕ) → now ≡ start + made → new ≡ now + ticks → new - start ≡ made + ticks
risen start now new made ticks before is = omega arith

-- what the code's look at the program counter says
reached_is : (stop : Option ℕ) (pc at : ℕ) (found answer : Bool) → pc ≡ at → found ≡ is_reached stop pc →
    found ≡ answer → is_reached stop at ≡ answer
reached_is stop pc at found answer is looked test = ap (is_reached stop) (sym is) ∙ sym looked ∙ test

pub loop-made-init : goal.loop-made-init
loop-made-init g c = (going_start c.args.stop c.args.limit c.args.self.now, omega arith)

pub returns-then-is_reached-clause-run : goal.returns-then-is_reached-clause-run
returns-then-is_reached-clause-run g c =
    let number : c.loop-made.steps - c.args.steps.now ≡ c.loop-made._made = omega arith in
    let reached =
    reached_is c.args.stop c.pc.result c.loop-made.self.cpu.pc c.is_reached.result true c.pc.ensures.value
    c.is_reached.ensures c.if-is_reached.true in
    rw number
    (run_reached c.args.stop c.args.limit c.loop-made._made c.args.self.now c.loop-made.self c.loop-made.invariant.0 reached)

pub returns-in-Some-clause-run : goal.returns-in-Some-clause-run
returns-in-Some-clause-run g c =
    let number : c.turn.new.steps - c.args.steps.now ≡ c.loop-made._made + executed_by (machine_step c.loop-made.self).0 =
    risen c.args.steps.now c.loop-made.steps c.turn.new.steps c.loop-made._made
    (executed_by (machine_step c.loop-made.self).0) c.loop-made.invariant.1 c.turn.ensures.ticks in
    let reached =
    reached_is c.args.stop c.pc.result c.loop-made.self.cpu.pc c.is_reached.result false c.pc.ensures.value
    c.is_reached.ensures c.if-is_reached.false in
    rw number
    (run_ended c.args.stop c.args.limit c.loop-made._made c.args.self.now c.loop-made.self c.turn.new.self c.in-Some.end c.loop-made.invariant.0 c.loop-made-test.true reached (sym c.turn.ensures.end ∙ c.in-Some.is) c.turn.ensures.step)

pub loop-made-preserved : goal.loop-made-preserved
loop-made-preserved g c =
    let none : end_of_turn (machine_step c.loop-made.self).0 ≡ None = sym c.turn.ensures.end ∙ c.in_default.is in
    let reached =
    reached_is c.args.stop c.pc.result c.loop-made.self.cpu.pc c.is_reached.result false c.pc.ensures.value
    c.is_reached.ensures c.if-is_reached.false in
    let one = one_tick (machine_step c.loop-made.self).0 none in
    (going_more c.args.stop c.args.limit c.loop-made._made c.args.self.now c.loop-made.self c.turn.new.self c.loop-made.invariant.0 c.loop-made-test.true reached none c.turn.ensures.step, steps_more c.args.steps.now c.loop-made.steps c.turn.new.steps c.loop-made._made (executed_by (machine_step c.loop-made.self).0) c.loop-made.invariant.1 c.turn.ensures.ticks one)

pub returns-clause-run : goal.returns-clause-run
returns-clause-run g c =
    let number : c.loop-made.steps - c.args.steps.now ≡ c.loop-made._made = omega arith in
    let all : c.loop-made._made ≡ c.args.limit = omega arith in
    let at = c.loop-made.self in
    let reported : c.end_at_limit.result ≡ end_at_limit c.args.stop at.cpu.pc =
    c.end_at_limit.ensures ∙ ap (end_at_limit c.args.stop) c.pc-2.ensures.value in
    rw (number, reported)
    (run_at_limit c.args.stop c.args.limit c.loop-made._made c.args.self.now at c.loop-made.invariant.0 all)

pub returns-in-Some-clause-limit : goal.returns-in-Some-clause-limit
returns-in-Some-clause-limit g c =
    within (c.turn.new.steps - c.args.steps.now) c.loop-made._made (executed_by (machine_step c.loop-made.self).0) c.args.limit
    (risen c.args.steps.now c.loop-made.steps c.turn.new.steps c.loop-made._made
    (executed_by (machine_step c.loop-made.self).0) c.loop-made.invariant.1 c.turn.ensures.ticks)
    (one_at_most (machine_step c.loop-made.self).0) c.loop-made-test.true
