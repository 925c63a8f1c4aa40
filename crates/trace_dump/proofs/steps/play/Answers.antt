use Rattle.std.proofs.Common.{◌≡◌, ◌+◌, refl, arith}
use Rattle.std.proofs.lemmas.Result.{err_from_is_err_and}
use Rattle.trace_dump.proofs.ShownPrograms
use Rattle.trace_dump.proofs.steps.play.Goals as goal

pub loop-made-init : goal.loop-made-init
loop-made-init g c =
    ShownPrograms.begun g.T.StepLine.shows c.args.session.now c.args.steps.now (g.O.Sink.state c.args.out.now) c.args.seen.now c.requires.running c.holds_match.ensures c.requires.kept

pub trace_line-requires-clause-running : goal.trace_line-requires-clause-running
trace_line-requires-clause-running g c = c.loop-made.invariant.running

pub next-requires : goal.next-requires
next-requires g c = record { running = c.loop-made.invariant.running }

pub returns-in-Stopped-clause-plays : goal.returns-in-Stopped-clause-plays
returns-in-Stopped-clause-plays g c =
    let state = g.O.Sink.state in
    ShownPrograms.stops_whole g.T.StepLine.shows c.args.session.now c.loop-made.session c.next.new.self c.args.steps.now c.loop-made.steps c.next.new.steps c.loop-made.made
    (state c.args.out.now) (state c.loop-made.out) c.loop-made.seen c.loop-made.invariant
    c.next.result c.in-Stopped.field-0 c.in-Stopped.is c.next.ensures.turned c.next.ensures.ended c.args.limit c.loop-made-test.true

pub returns-in-Stopped-clause-kept : goal.returns-in-Stopped-clause-kept
returns-in-Stopped-clause-kept g c =
    let state = g.O.Sink.state in
    ShownPrograms.stops_kept g.T.StepLine.shows c.args.session.now c.loop-made.session c.next.new.self c.args.steps.now c.loop-made.steps c.next.new.steps c.loop-made.made
    (state c.args.out.now) (state c.loop-made.out) c.loop-made.seen c.loop-made.invariant
    c.next.result c.in-Stopped.field-0 c.in-Stopped.is c.next.ensures.turned c.next.ensures.ended

pub returns-in_err-put_chunk-clause-plays : goal.returns-in_err-put_chunk-clause-plays
returns-in_err-put_chunk-clause-plays g c =
    let state = g.O.Sink.state in
    let p = err_from_is_err_and c.from_residual.result c.from_residual.ensures.1 in
    let line = g.T.StepLine.bytes c.end.new.self in
    let ends = rw (c.machine.ensures, c.begin.ensures) at c.end.ensures.text in
    let missed = rw (c.as_bytes.ensures) at c.in_err-put_chunk.ensures in
    rw p.1 (ShownPrograms.breaks_off g.T.StepLine.shows c.args.session.now c.loop-made.session c.next.new.self c.args.steps.now c.loop-made.steps c.next.new.steps c.loop-made.made
    (state c.args.out.now) (state c.loop-made.out) c.loop-made.seen c.loop-made.invariant
    c.next.result c.in_default.is c.next.ensures.turned c.next.ensures.ended
    c.trace_line.result.items line (c.loop-made.made + 1) c.trace_line.ensures.text refl ends
    c.args.limit (state c.put_chunk.new.sink) c.loop-made-test.true missed)

pub loop-made-preserved : goal.loop-made-preserved
loop-made-preserved g c =
    let state = g.O.Sink.state in
    let line = g.T.StepLine.bytes c.end.new.self in
    let ends = rw (c.machine.ensures, c.begin.ensures) at c.end.ensures.text in
    let kept = rw c.machine.ensures at c.end.ensures.seen in
    let wrote = rw (c.as_bytes.ensures) at c.in_ok-put_chunk.ensures in
    ShownPrograms.shown g.T.StepLine.shows c.args.session.now c.loop-made.session c.next.new.self c.args.steps.now c.loop-made.steps c.next.new.steps c.loop-made.made
    (state c.args.out.now) (state c.loop-made.out) c.loop-made.seen c.loop-made.invariant
    c.next.result c.in_default.is c.next.ensures.turned c.next.ensures.ended
    c.trace_line.result.items line (c.loop-made.made + 1) c.trace_line.ensures.text refl ends
    (state c.put_chunk.new.sink) c.end.new.seen wrote kept

pub returns-clause-plays : goal.returns-clause-plays
returns-clause-plays g c =
    let state = g.O.Sink.state in
    let all : c.loop-made.made ≡ c.args.limit = let a = c.loop-made-test.false in let b = c.loop-made.auto.made-end in omega arith in
    ShownPrograms.plays_whole g.T.StepLine.shows c.args.limit c.loop-made.made c.args.session.now c.loop-made.session c.args.steps.now c.loop-made.steps
    (state c.args.out.now) (state c.loop-made.out) c.loop-made.seen all c.loop-made.invariant

pub returns-clause-kept : goal.returns-clause-kept
returns-clause-kept g c = c.loop-made.invariant.kept_is
