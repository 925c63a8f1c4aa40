use Rattle.sim_stack.proofs.Common.{ap, arith, at_most, CanStoreBoth, end_fetch, exit_then, fetch_on, fetch_stacked, fetched}
use Rattle.sim_stack.proofs.Common.{goes_then, IsVisible, load_stacked, locate_stacked, off, on, refl, room, set_aside}
use Rattle.sim_stack.proofs.Common.{shown, stopped, subst, View, view, ℕ}
use Rattle.sim_stack.proofs.fetch.run_fetched.Goals as goal

pub returns-then-pc-eq-GSTOP : goal.returns-then-pc-eq-GSTOP
unfolding fetched
returns-then-pc-eq-GSTOP g c =
    stopped fetch_on (on c.pc.ensures.value c.if-pc-eq-GSTOP.true) c.keep_place.ensures

pub set_aside-requires-clause-is_at : goal.set_aside-requires-clause-is_at
set_aside-requires-clause-is_at g c =
    (room _ _ _ _ _ (off c.pc.ensures.value c.if-pc-eq-GSTOP.false) c.keep_place.ensures).1.is_at

pub set_aside-requires-clause-link : goal.set_aside-requires-clause-link
set_aside-requires-clause-link g c =
    ap (λ (w : View). w.r.r11)
    (room _ _ _ _ _ (off c.pc.ensures.value c.if-pc-eq-GSTOP.false) c.keep_place.ensures).1.shows

pub load_stacked-requires-clause-visible : goal.load_stacked-requires-clause-visible
load_stacked-requires-clause-visible g c =
    let kept = room _ _ _ _ _ (off c.pc.ensures.value c.if-pc-eq-GSTOP.false) c.keep_place.ensures in
    let near = at_most 0xC0 _ kept.0 in
    shown (λ (w : View). IsVisible 0 w.r.r2 2) (exit_then set_aside kept.1 refl c.set_aside.ensures)
    (λ z. omega arith)

pub locate_stacked-requires-clause-link : goal.locate_stacked-requires-clause-link
locate_stacked-requires-clause-link g c = ap (λ (w : View). w.r.r11) c.fetch_stacked.ensures.shows

pub end_fetch-requires-clause-visible : goal.end_fetch-requires-clause-visible
end_fetch-requires-clause-visible g c =
    let kept = room _ _ _ _ _ (off c.pc.ensures.value c.if-pc-eq-GSTOP.false) c.keep_place.ensures in
    let near = at_most 0xC0 _ kept.0 in
    let set = exit_then set_aside kept.1 refl c.set_aside.ensures in
    let word = exit_then load_stacked set refl c.load_stacked.ensures in
    let byte = exit_then fetch_stacked word refl c.fetch_stacked.ensures in
    let v = view c.args.machine.now in
    shown CanStoreBoth (exit_then locate_stacked byte refl c.locate_stacked.ensures)
    (λ z. omega arith, subst (λ (n : ℕ). IsVisible v.r.r8 v.r.r7 n) c.requires.byte c.requires.visible)

pub returns : goal.returns
unfolding fetched fetch_on
returns g c =
    let elsewhere = off c.pc.ensures.value c.if-pc-eq-GSTOP.false in
    let word = exit_then load_stacked c.set_aside.ensures refl c.load_stacked.ensures in
    let byte = exit_then fetch_stacked word refl c.fetch_stacked.ensures in
    let located = exit_then locate_stacked byte refl c.locate_stacked.ensures in
    goes_then fetch_on elsewhere c.keep_place.ensures (room _ _ _ _ _ elsewhere c.keep_place.ensures).1.is_at refl
    (exit_then end_fetch located refl c.end_fetch.ensures)
