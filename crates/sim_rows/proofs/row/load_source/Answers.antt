use Rattle.std.proofs.Common.{ℕ, ◌<◌, ◌≡◌, ap, arith, subst, sym}
use Rattle.sim_view.proofs.Common.{is_view, off, on}
use Rattle.sim_rows.specs.Prelude.{GSTOP, OPVAL, PortsAreIdle, return_of, IsAt, View, view}
use Rattle.sim_view.specs.native_interp.declared.addresses.TheConstants.{STREAM}
use Rattle.sim_rows.proofs.Again.{fetched_again, idle_again}
use Rattle.sim_rows.proofs.Destinations.{found_there, FoundThere, visible_again}
use Rattle.sim_rows.proofs.Sources
use Rattle.sim_rows.specs.Pieces as pieces
use Rattle.sim_rows.proofs.row.load_source.Given.{Over}
use Rattle.sim_rows.proofs.row.load_source.Goals.{After-load_second}
use Rattle.sim_rows.proofs.row.load_source.Goals as goal

-- What is known where the place was asked for and found.
module _ (g : Over) (c : After-load_second g) where
  away : c.request_second.new.machine.cpu.pc ≡ STREAM → ⊥
  away here = let a = c.pc.ensures.value in let b = c.if-pc-eq-STREAM.false in absurd (omega arith)

  elsewhere : c.run_address.new.machine.cpu.pc ≡ GSTOP → ⊥
  elsewhere here = let a = c.pc-2.ensures.value in let b = c.if-pc-eq-GSTOP.false in absurd (omega arith)

  found : FoundThere c.request_second.new.machine c.run_address.new.machine
  found =
      found_there c.request_second.new.machine c.run_address.new.machine c.request_second.new.steps c.run_address.new.steps elsewhere c.run_address.ensures

  asking : view c.request_second.new.machine ≡ Sources.tested c.request_second.ensures OPVAL
  asking = Sources.shows_asking c.request_second.ensures away

  idle : PortsAreIdle c.run_address.new.machine.cpu.memory
  idle =
      found.idle (idle_again c.args.machine.now.cpu.memory c.request_second.new.machine.cpu.memory (ap (λ (v : View). v.vdp) asking)
      (ap (λ (v : View). v.grom) asking) c.requires.idle)

pub returns-then-pc-eq-STREAM : goal.returns-then-pc-eq-STREAM
returns-then-pc-eq-STREAM g c = λ s place has kept.
    Sources.immediate c.request_second.ensures (is_view c.args.machine.now c.requires.is_at.machine) s place has kept
    (on c.pc.ensures.value c.if-pc-eq-STREAM.true) c.stream_value.ensures

pub run_address-requires-clause-idle : goal.run_address-requires-clause-idle
run_address-requires-clause-idle g c =
    let is = Sources.shows_asking c.request_second.ensures (off c.pc.ensures.value c.if-pc-eq-STREAM.false) in
    idle_again c.args.machine.now.cpu.memory c.request_second.new.machine.cpu.memory
    (ap (λ (v : View). v.vdp) is) (ap (λ (v : View). v.grom) is) c.requires.idle

pub run_address-requires-clause-fetched : goal.run_address-requires-clause-fetched
run_address-requires-clause-fetched g c =
    let is = Sources.shows_asking c.request_second.ensures (off c.pc.ensures.value c.if-pc-eq-STREAM.false) in
    fetched_again c.args.machine.now.cpu.memory c.request_second.new.machine.cpu.memory (ap (λ (v : View). v.grom) is) c.requires.fetched

pub returns-then-pc-eq-GSTOP : goal.returns-then-pc-eq-GSTOP
returns-then-pc-eq-GSTOP g c = λ s place has kept.
    Sources.bars c.request_second.ensures (is_view c.args.machine.now c.requires.is_at.machine)
    s place has kept (off c.pc.ensures.value c.if-pc-eq-STREAM.false) _
    _ c.run_address.ensures (on c.pc-2.ensures.value c.if-pc-eq-GSTOP.true)

pub load_second-requires : goal.load_second-requires
load_second-requires g c =
    let elsewhere : c.run_address.new.machine.cpu.pc ≡ GSTOP → ⊥ = λ here. let a = c.pc-2.ensures.value in let b = c.if-pc-eq-GSTOP.false in
    absurd (omega arith) in
    let found = found_there c.request_second.new.machine c.run_address.new.machine c.request_second.new.steps c.run_address.new.steps elsewhere
    c.run_address.ensures in
    subst (λ (p : ℕ). IsAt c.run_address.new.machine p)
    (ap return_of (Sources.shows_asking c.request_second.ensures (off c.pc.ensures.value c.if-pc-eq-STREAM.false))) found.is_at

pub run_load-requires-clause-idle : goal.run_load-requires-clause-idle
run_load-requires-clause-idle g c =
    let at = (goal.at.run_load-requires-clause-idle g c).After-load_second in
    let is = c.load_second.ensures.shows in
    idle_again c.run_address.new.machine.cpu.memory c.load_second.new.machine.cpu.memory (ap (λ (v : View). v.vdp) is) (ap (λ (v : View). v.grom) is)
    (idle g at)

pub run_load-requires-clause-visible : goal.run_load-requires-clause-visible
run_load-requires-clause-visible g c =
    let at = (goal.at.run_load-requires-clause-visible g c).After-load_second in
    visible_again (pieces.load_second (view c.run_address.new.machine)).left (view c.load_second.new.machine) c.load_second.ensures.shows
    ((found g at).visible (subst (λ (v : View). 0 < v.r.r3) (sym (asking g at)) c.requires.some))

pub returns : goal.returns
returns g c = λ s place has kept.
    let at = (goal.at.returns g c).After-load_second in
    Sources.placed c.request_second.ensures (is_view c.args.machine.now c.requires.is_at.machine) s place has kept (away g at) _ _ c.run_address.ensures
    (elsewhere g at) c.load_second.ensures c.run_load.ensures.value
