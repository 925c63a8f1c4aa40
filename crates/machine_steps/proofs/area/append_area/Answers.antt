use Rattle.std.proofs.Common.{◌+◌, ◌++◌, slice_index_or, refl, sym, ap, subst, length, ◌≤◌, List, ℕ, ◌∙◌, arith}
use Rattle.std.proofs.lemmas.Bool.Decides.{nat_tests}
use Rattle.step_changes.proofs.Neighbours.{change, change_is}
use Rattle.machine_change_defs.specs.Text.{place_text}
use Rattle.step_changes.proofs.AppendedChanges.{append_none, append_more, unchanged}
use Rattle.machine_steps.proofs.area.append_area.Goals as goal

pub loop-from-init : goal.loop-from-init
loop-from-init c = append_none (place_text c.args.area) c.args.before.now c.args.now.now c.args.line.now

pub loop-from-preserved : goal.loop-from-preserved
loop-from-preserved c =
    let before = c.args.before.now in
    let now = c.args.now.now in
    let from = c.in-Some.from in
    let count = c.stretch-count.result in
    let next = c.in-Some.ensures in
    let counted = c.stretch-count.ensures.value in
    let is = next.skips ∙ change_is before now (c.requires.before ∙ sym c.requires.now) from count next.within next.differs counted in
    let text = c.change_text-text.ensures.text in
    let grown = c.append.ensures ∙ ap (λ (t : List ℕ). c.loop-from.line ++ t) (c.as_slice.ensures.value ∙ text) in
    let short = subst (λ (t : List ℕ). length t ≤ 16) text c.change_text-text.ensures.size in
    append_more (place_text c.args.area) before now c.args.line.now c.loop-from.line c.append.new.self c.loop-from.at
    (change from (slice_index_or now from 0) count) (from + count) c.loop-from.invariant is refl (omega (arith, next.from_on, counted)) c.stretch-count.ensures.within
    grown short

pub returns-clause-same : goal.returns-clause-same
returns-clause-same c = λ e.
    unchanged c.args.before.now c.args.now.now c.loop-from.at (c.requires.before ∙ sym c.requires.now) (grind (arith, nat_tests)) c.in_default.ensures
