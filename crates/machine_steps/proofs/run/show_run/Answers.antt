use Rattle.std.proofs.Common.{◌≡◌, ◌+◌, refl, arith}
use Rattle.std.proofs.lemmas.Result.{err_from_is_err_and}
use Rattle.std.proofs.lemmas.Bool.Decides.{nat_tests}
use Rattle.machine_steps.proofs.ShownRuns
use Rattle.machine_steps.proofs.UnchangedParts.{stays_at}
use Rattle.machine_steps.proofs.run.show_run.Goals as goal

pub loop-made-init : goal.loop-made-init
loop-made-init g c = ShownRuns.begun c.args.limit c.args.machine.now (g.O.Sink.state c.args.out.now) c.args.seen.now c.requires.kept

pub returns-in_err-put_chunk-in-Done-clause-shows : goal.returns-in_err-put_chunk-in-Done-clause-shows
returns-in_err-put_chunk-in-Done-clause-shows g c =
    let state = g.O.Sink.state in
    let p = err_from_is_err_and c.from_residual.result c.from_residual.ensures.1 in
    let ends = rw (c.bus.ensures, c.wp-wp.ensures.value, c.append.ensures, c.clear.ensures, c.as_slice.ensures.value, c.step_front.ensures) at c.append_changes.ensures.text in
    let missed = rw (c.bytes.ensures) at c.in_err-put_chunk-in-Done.ensures in
    rw p.1 (ShownRuns.breaks_off c.args.limit c.args.machine.now c.loop-made.machine c.loop-made.made (state c.args.out.now) (state c.loop-made.out) c.loop-made.seen c.loop-made.invariant
    c.loop-made-test.true c.step.result c.step.new.self c.step.ensures.step c.in-Done.word c.in-Done.is c.append_changes.new.line (c.loop-made.made + 1) refl ends
    (state c.put_chunk.new.sink) missed)

pub returns-then-word-eq-SELF_JUMP-clause-shows : goal.returns-then-word-eq-SELF_JUMP-clause-shows
returns-then-word-eq-SELF_JUMP-clause-shows g c =
    let state = g.O.Sink.state in
    let ends = rw (c.bus.ensures, c.wp-wp.ensures.value, c.append.ensures, c.clear.ensures, c.as_slice.ensures.value, c.step_front.ensures) at c.append_changes.ensures.text in
    let wrote = rw (c.bytes.ensures) at c.in_ok-put_chunk-in-Done.ensures in
    let self : c.in-Done.word ≡ 0x10FF = let t = c.if-word-eq-SELF_JUMP.true in grind (arith, nat_tests) in
    ShownRuns.jumped c.args.limit c.args.machine.now c.loop-made.machine c.loop-made.made (state c.args.out.now) (state c.loop-made.out) c.loop-made.seen c.loop-made.invariant
    c.loop-made-test.true c.step.result c.step.new.self c.step.ensures.step c.in-Done.word c.in-Done.is c.append_changes.new.line (c.loop-made.made + 1) refl ends
    (state c.put_chunk.new.sink) wrote self

pub append_changes-requires-clause-stays : goal.append_changes-requires-clause-stays
append_changes-requires-clause-stays g c =
    stays_at c.loop-made.machine c.step.new.self c.step.result c.in-Done.word c.step.ensures.step c.in-Done.is
    c.reach_of.result c.reach_of.ensures c.loop-made.seen c.loop-made.invariant.kept_is c.bus.result.now c.bus.ensures

pub loop-made-preserved : goal.loop-made-preserved
loop-made-preserved g c =
    let state = g.O.Sink.state in
    let ends = rw (c.bus.ensures, c.wp-wp.ensures.value, c.append.ensures, c.clear.ensures, c.as_slice.ensures.value, c.step_front.ensures) at c.append_changes.ensures.text in
    let wrote = rw (c.bytes.ensures) at c.in_ok-put_chunk-in-Done.ensures in
    let kept = rw c.bus.ensures at c.append_changes.ensures.seen in
    ShownRuns.shown c.args.limit c.args.machine.now c.loop-made.machine c.loop-made.made (state c.args.out.now) (state c.loop-made.out) c.loop-made.seen c.loop-made.invariant
    c.loop-made-test.true c.step.result c.step.new.self c.step.ensures.step c.in-Done.word c.in-Done.is c.append_changes.new.line (c.loop-made.made + 1) refl ends
    (state c.put_chunk.new.sink) c.append_changes.new.seen wrote (λ e. let t = c.if-word-eq-SELF_JUMP.false in grind (arith, nat_tests)) kept

pub returns-clause-shows : goal.returns-clause-shows
returns-clause-shows g c =
    let state = g.O.Sink.state in
    let all : c.loop-made.made ≡ c.args.limit = let a = c.loop-made-test.false in let b = c.loop-made.auto.made-end in omega arith in
    ShownRuns.limited c.args.limit c.args.machine.now c.loop-made.machine c.loop-made.made (state c.args.out.now) (state c.loop-made.out) c.loop-made.seen c.loop-made.invariant all

pub returns-in-Port-clause-shows : goal.returns-in-Port-clause-shows
returns-in-Port-clause-shows g c =
    let state = g.O.Sink.state in
    ShownRuns.at_port c.args.limit c.args.machine.now c.loop-made.machine c.loop-made.made (state c.args.out.now) (state c.loop-made.out) c.loop-made.seen c.loop-made.invariant
    c.loop-made-test.true c.step.result c.step.new.self c.step.ensures.step c.in-Port.address c.in-Port.is c.in-Port.ensures.stopped
