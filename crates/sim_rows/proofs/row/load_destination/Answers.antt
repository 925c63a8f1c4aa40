use Rattle.std.proofs.Common.{◌<◌, ◌≡◌, arith}
use Rattle.sim_view.proofs.Common.{on}
use Rattle.sim_rows.specs.Prelude.{after_code, GSTOP, operation_in, ROW, state_at_dispatch, view, WIDE, word_of}
use Rattle.sim_view.specs.native_interp.declared.addresses.TheConstants.{OPSDST, OPSVAL, STROW, WIDDST, WIDVAL}
use Rattle.std.proofs.Common.{refl}
use Rattle.sim_rows.proofs.Ends.{fetched_of, idle_of}
use Rattle.sim_rows.proofs.Entries.{Kind}
use Rattle.sim_rows.proofs.FirstOperand.{narrow_here}
use Rattle.sim_rows.proofs.Destinations
use Rattle.sim_rows.proofs.row.load_destination.Given.{Over}
use Rattle.sim_rows.proofs.row.load_destination.Goals.{After-load_first, After-load_wide, After-run_address}
use Rattle.sim_rows.proofs.row.load_destination.Goals as goal

-- What is known after ADDR: how many bytes were asked for.
module _ (g : Over) (c : After-run_address g) where
  some : 0 < (view c.request_destination.new.machine).r.r3
  some =
      let s = state_at_dispatch (view c.args.machine.now) in
      let n = (Destinations.some_bytes (operation_in s) (word_of s)).0 in
      let b = c.request_destination.ensures.holds.holds.bytes_are in
      omega arith

-- What is known after a piece that asks for the value: the destination was found.
module _ (g : Over) (c : After-load_wide g) where
  wide_there : c.run_address.new.machine.cpu.pc ≡ GSTOP → ⊥
  wide_there here = let a = c.pc.ensures.value in let b = c.if-pc-eq-GSTOP.false in absurd (omega arith)

  is_wide : c.args.machine.now.cpu.pc ≡ WIDE
  is_wide = let a = c.pc-entry.ensures.value in let b = c.if-entry-eq-WIDE.true in omega arith

module _ (g : Over) (c : After-load_first g) where
  first_there : c.run_address.new.machine.cpu.pc ≡ GSTOP → ⊥
  first_there here = let a = c.pc.ensures.value in let b = c.if-pc-eq-GSTOP.false in absurd (omega arith)

  is_first : Kind (operation_in (state_at_dispatch (view c.args.machine.now))) ROW OPSDST 1
  is_first =
      narrow_here c.requires (λ here. let a = c.pc-entry.ensures.value in let b = c.if-entry-eq-WIDE.false in absurd (omega arith))
      (λ here. let a = c.pc-entry.ensures.value in let b = c.if-entry-eq-STROW.false in absurd (omega arith))

pub run_address-requires-clause-idle : goal.run_address-requires-clause-idle
run_address-requires-clause-idle g c =
    let s = state_at_dispatch (view c.args.machine.now) in
    idle_of c.request_destination.new.machine.cpu.memory s (after_code s) c.request_destination.ensures.holds.holds.sees

pub run_address-requires-clause-fetched : goal.run_address-requires-clause-fetched
run_address-requires-clause-fetched g c =
    let s = state_at_dispatch (view c.args.machine.now) in
    fetched_of c.request_destination.new.machine.cpu.memory s (after_code s) c.request_destination.ensures.holds.holds.sees

pub run_address-requires-clause-bytes : goal.run_address-requires-clause-bytes
run_address-requires-clause-bytes g c =
    let s = state_at_dispatch (view c.args.machine.now) in
    let n = (Destinations.some_bytes (operation_in s) (word_of s)).1 in
    let b = c.request_destination.ensures.holds.holds.bytes_are in
    omega arith

pub returns-then-pc-eq-GSTOP : goal.returns-then-pc-eq-GSTOP
returns-then-pc-eq-GSTOP g c = Destinations.stops c.requires c.request_destination.ensures _ _ c.run_address.ensures
    (on c.pc.ensures.value c.if-pc-eq-GSTOP.true)

pub keep_stored-requires : goal.keep_stored-requires
keep_stored-requires g c =
    let elsewhere : c.run_address.new.machine.cpu.pc ≡ GSTOP → ⊥ = λ here. let a = c.pc.ensures.value in let b = c.if-pc-eq-GSTOP.false in
    absurd (omega arith) in
    let here : c.args.machine.now.cpu.pc ≡ STROW = let a = c.pc-entry.ensures.value in let b = c.if-entry-eq-STROW.true in omega arith in
    Destinations.at_stored c.requires c.request_destination.ensures _ _ c.run_address.ensures elsewhere here

pub returns-then-entry-eq-STROW : goal.returns-then-entry-eq-STROW
returns-then-entry-eq-STROW g c =
    let elsewhere : c.run_address.new.machine.cpu.pc ≡ GSTOP → ⊥ = λ here. let a = c.pc.ensures.value in let b = c.if-pc-eq-GSTOP.false in
    absurd (omega arith) in
    let here : c.args.machine.now.cpu.pc ≡ STROW = let a = c.pc-entry.ensures.value in let b = c.if-entry-eq-STROW.true in omega arith in
    Destinations.stored c.requires c.request_destination.ensures _ _ c.run_address.ensures elsewhere here
    c.keep_stored.ensures

pub load_wide-requires : goal.load_wide-requires
load_wide-requires g c =
    let elsewhere : c.run_address.new.machine.cpu.pc ≡ GSTOP → ⊥ = λ here. let a = c.pc.ensures.value in let b = c.if-pc-eq-GSTOP.false in
    absurd (omega arith) in
    let here : c.args.machine.now.cpu.pc ≡ WIDE = let a = c.pc-entry.ensures.value in let b = c.if-entry-eq-WIDE.true in omega arith in
    Destinations.at_wide c.requires c.request_destination.ensures _ _ c.run_address.ensures elsewhere here

pub run_load-requires-clause-idle : goal.run_load-requires-clause-idle
run_load-requires-clause-idle g c =
    let at = (goal.at.run_load-requires-clause-idle g c).After-load_wide in
    let o = Destinations.wide_here c.requires c.request_destination.ensures _ _ c.run_address.ensures
    (wide_there g at) (is_wide g at) in
    Destinations.idle_loading c.requires c.request_destination.ensures _ _ c.run_address.ensures
    (wide_there g at) WIDVAL WIDDST o.kind.label_is refl c.load_wide.ensures

pub run_load-requires-clause-visible : goal.run_load-requires-clause-visible
run_load-requires-clause-visible g c =
    let at = (goal.at.run_load-requires-clause-visible g c).After-load_wide in
    let o = Destinations.wide_here c.requires c.request_destination.ensures _ _ c.run_address.ensures
    (wide_there g at) (is_wide g at) in
    Destinations.visible_loading c.requires c.request_destination.ensures _ _ c.run_address.ensures
    (wide_there g at) WIDVAL WIDDST o.kind.label_is refl c.load_wide.ensures (some g (goal.at.run_load-requires-clause-visible g c).After-run_address)

pub keep_wide-requires : goal.keep_wide-requires
keep_wide-requires g c =
    let at = (goal.at.keep_wide-requires g c).After-load_wide in
    let o = Destinations.wide_here c.requires c.request_destination.ensures _ _ c.run_address.ensures
    (wide_there g at) (is_wide g at) in
    (Destinations.value c.requires c.request_destination.ensures _ _ c.run_address.ensures
    (wide_there g at) WIDVAL WIDDST o.kind.label_is refl c.load_wide.ensures refl c.run_load.ensures.value).is_at

pub returns-then-entry-eq-WIDE : goal.returns-then-entry-eq-WIDE
returns-then-entry-eq-WIDE g c =
    let at = (goal.at.returns-then-entry-eq-WIDE g c).After-load_wide in
    Destinations.kept_wide c.requires c.request_destination.ensures _ _ c.run_address.ensures
    (wide_there g at) (is_wide g at) c.run_load.ensures.value c.load_wide.ensures c.keep_wide.ensures

pub load_first-requires : goal.load_first-requires
load_first-requires g c =
    let elsewhere : c.run_address.new.machine.cpu.pc ≡ GSTOP → ⊥ = λ here. let a = c.pc.ensures.value in let b = c.if-pc-eq-GSTOP.false in
    absurd (omega arith) in
    let kind = narrow_here c.requires (λ here. let a = c.pc-entry.ensures.value in let b = c.if-entry-eq-WIDE.false in absurd (omega arith))
    (λ here. let a = c.pc-entry.ensures.value in let b = c.if-entry-eq-STROW.false in absurd (omega arith)) in
    Destinations.at_first c.requires c.request_destination.ensures _ _ c.run_address.ensures elsewhere kind

pub run_load-requires-2-clause-idle : goal.run_load-requires-2-clause-idle
run_load-requires-2-clause-idle g c =
    let at = (goal.at.run_load-requires-2-clause-idle g c).After-load_first in
    Destinations.idle_loading c.requires c.request_destination.ensures _ _ c.run_address.ensures
    (first_there g at) OPSVAL OPSDST (is_first g at).label_is refl c.load_first.ensures

pub run_load-requires-2-clause-visible : goal.run_load-requires-2-clause-visible
run_load-requires-2-clause-visible g c =
    let at = (goal.at.run_load-requires-2-clause-visible g c).After-load_first in
    Destinations.visible_loading c.requires c.request_destination.ensures _ _ c.run_address.ensures
    (first_there g at) OPSVAL OPSDST (is_first g at).label_is refl c.load_first.ensures
    (some g (goal.at.run_load-requires-2-clause-visible g c).After-run_address)

pub keep_first-requires : goal.keep_first-requires
keep_first-requires g c =
    let at = (goal.at.keep_first-requires g c).After-load_first in
    (Destinations.value c.requires c.request_destination.ensures _ _ c.run_address.ensures
    (first_there g at) OPSVAL OPSDST (is_first g at).label_is refl c.load_first.ensures refl c.run_load-2.ensures.value).is_at

pub returns : goal.returns
returns g c =
    let at = (goal.at.returns g c).After-load_first in
    Destinations.kept_first c.requires c.request_destination.ensures _ _ c.run_address.ensures
    (first_there g at) (is_first g at) c.run_load-2.ensures.value c.load_first.ensures c.keep_first.ensures
