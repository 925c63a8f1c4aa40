use Rattle.std.proofs.Common.{◌≡◌, sym, arith, ◌∙◌}
use Rattle.std.proofs.lemmas.Option.{slice_get-get_or}
use Rattle.gpl_run.specs.Sessions.{gpl_state_of}
use Rattle.gpl_watch.proofs.Kept.{kept_items, keeps, kept_from}
use Rattle.gpl_watch.proofs.WatchedRuns
use Rattle.gpl_watch.proofs.run.run_watched.Goals as goal

pub loop-made-init : goal.loop-made-init
loop-made-init g c =
    WatchedRuns.begun c.args.session.now c.args.steps.now c.args.watched.now c.requires.running c.holds_match.ensures
    c.requires.kept

pub next-requires : goal.next-requires
next-requires g c = record { running = c.loop-made.invariant.running }

pub returns-in-Stopped-clause-found : goal.returns-in-Stopped-clause-found
returns-in-Stopped-clause-found g c =
    sym (WatchedRuns.stops_found c.next.new.self c.next.new.steps c.loop-made.invariant c.in-Stopped.is
    c.next.ensures.turned c.next.ensures.ended c.args.limit c.loop-made-test.true)

pub returns-in-Stopped-clause-runs : goal.returns-in-Stopped-clause-runs
returns-in-Stopped-clause-runs g c =
    WatchedRuns.stops_runs c.next.new.self c.next.new.steps c.loop-made.invariant c.in-Stopped.is c.next.ensures.turned
    c.next.ensures.ended c.args.limit c.loop-made-test.true

pub returns-in-Stopped-clause-items : goal.returns-in-Stopped-clause-items
returns-in-Stopped-clause-items g c = kept_items _ _ _ c.loop-made.invariant.kept

pub returns-in-Stopped-clause-kept : goal.returns-in-Stopped-clause-kept
returns-in-Stopped-clause-kept g c =
    WatchedRuns.stops_kept c.next.new.self c.next.new.steps c.loop-made.invariant c.in-Stopped.is
    c.next.ensures.turned c.next.ensures.ended

pub returns-in-Some-clause-found : goal.returns-in-Some-clause-found
returns-in-Some-clause-found g c =
    let place = c.in-Some.place in
    let at = slice_get-get_or c.loop-made.watched place c.index-watched-place.result c.in-Some.ensures.within in
    let first = WatchedRuns.first_reported c.next.new.self c.loop-made.watched c.pc-reached.ensures c.first_that_holds.ensures.first ∙ c.in-Some.is in
    WatchedRuns.hit_found c.next.new.self c.next.new.steps c.loop-made.invariant c.in_default.is
    c.next.ensures.turned c.next.ensures.ended place c.args.limit first c.loop-made-test.true at c.hit-found.ensures c.pc-from.ensures c.change.ensures

pub returns-in-Some-clause-runs : goal.returns-in-Some-clause-runs
returns-in-Some-clause-runs g c =
    WatchedRuns.hit_runs c.next.new.self c.next.new.steps c.loop-made.invariant c.in_default.is c.next.ensures.turned
    c.next.ensures.ended c.args.limit c.hit-found.ensures

pub returns-in-Some-clause-items : goal.returns-in-Some-clause-items
returns-in-Some-clause-items g c =
    let s = gpl_state_of c.next.new.self in
    kept_items _ s _ (c.keep_all.ensures ∙ kept_from _ (gpl_state_of c.loop-made.session) _ s c.loop-made.invariant.kept)

pub returns-in-Some-clause-kept : goal.returns-in-Some-clause-kept
returns-in-Some-clause-kept g c =
    let s = gpl_state_of c.next.new.self in
    keeps _ s _ (c.keep_all.ensures ∙ kept_from _ (gpl_state_of c.loop-made.session) _ s c.loop-made.invariant.kept)

pub loop-made-preserved : goal.loop-made-preserved
loop-made-preserved g c =
    WatchedRuns.goes_on c.next.new.self c.next.new.steps c.loop-made.invariant c.in_default.is
    c.next.ensures.turned c.next.ensures.ended
    (WatchedRuns.first_reported c.next.new.self c.loop-made.watched c.pc-reached.ensures c.first_that_holds.ensures.first ∙ c.in_default-first_that_holds.is)

pub returns-clause-found : goal.returns-clause-found
returns-clause-found g c =
    let all : c.loop-made.made ≡ c.args.limit = omega (arith, c.loop-made-test.false, c.loop-made.auto.made-end) in
    sym (WatchedRuns.none_is_found all c.loop-made.invariant)

pub returns-clause-runs : goal.returns-clause-runs
returns-clause-runs g c =
    let all : c.loop-made.made ≡ c.args.limit = omega (arith, c.loop-made-test.false, c.loop-made.auto.made-end) in
    WatchedRuns.all_runs all c.loop-made.invariant

pub returns-clause-items : goal.returns-clause-items
returns-clause-items g c = kept_items _ _ _ c.loop-made.invariant.kept

pub returns-clause-kept : goal.returns-clause-kept
returns-clause-kept g c = keeps _ (gpl_state_of c.loop-made.session) _ c.loop-made.invariant.kept
