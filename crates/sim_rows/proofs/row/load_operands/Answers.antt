use Rattle.std.proofs.Common.{◌≡◌, arith, Bool, subst, true}
use Rattle.sim_view.proofs.Common.{off, on}
use Rattle.sim_rows.specs.Prelude.{after_first, first_of, GplState, LoadsDestination, state_at_dispatch, view, word_of}
use Rattle.sim_view.specs.native_interp.declared.addresses.TheConstants.{OPSTWO}
use Rattle.sim_rows.proofs.Ends.{fetched_of, idle_of}
use Rattle.sim_rows.proofs.Destinations.{few_bytes}
use Rattle.sim_rows.proofs.RowStart
use Rattle.sim_rows.proofs.row.load_operands.Given.{Over}
use Rattle.sim_rows.proofs.row.load_operands.Goals.{After-load_destination}
use Rattle.sim_rows.proofs.row.load_operands.Goals as goal

-- What is known after the destination: it was kept; and where there is a source.
module _ (g : Over) (c : After-load_destination g) (went : c.load_destination.result ≡ true) where
  abbrev s : GplState
  s = state_at_dispatch (view c.args.machine.now)

  begun : RowStart.Begun s c.args.machine.now c.load_destination.new.machine c.args.steps.now c.load_destination.new.steps
  begun =
      RowStart.begun s c.args.machine.now c.load_destination.new.machine c.args.steps.now c.load_destination.new.steps
      (subst (λ (b : Bool). LoadsDestination s c.args.machine.now c.load_destination.new.machine c.args.steps.now c.load_destination.new.steps b (first_of s))
      went c.load_destination.ensures)

  two : c.load_destination.new.machine.cpu.pc ≡ OPSTWO →
      RowStart.TwoOperands s c.args.machine.now c.load_destination.new.machine c.args.steps.now c.load_destination.new.steps begun
  two here = RowStart.two s c.args.machine.now c.load_destination.new.machine c.args.steps.now c.load_destination.new.steps begun here

pub load_source-requires-clause-is_at : goal.load_source-requires-clause-is_at
load_source-requires-clause-is_at g c =
    let at = (goal.at.load_source-requires-clause-is_at g c).After-load_destination in
    let o = two g at c.if-not-load_destination.false (on c.pc.ensures.value c.if-pc-eq-OPSTWO.true) in
    o.comes.is_at

pub load_source-requires-clause-idle : goal.load_source-requires-clause-idle
load_source-requires-clause-idle g c =
    let at = (goal.at.load_source-requires-clause-idle g c).After-load_destination in
    let o = two g at c.if-not-load_destination.false (on c.pc.ensures.value c.if-pc-eq-OPSTWO.true) in
    let s = state_at_dispatch (view c.args.machine.now) in
    idle_of c.load_destination.new.machine.cpu.memory s (after_first s) o.comes.holds.holds.sees

pub load_source-requires-clause-fetched : goal.load_source-requires-clause-fetched
load_source-requires-clause-fetched g c =
    let at = (goal.at.load_source-requires-clause-fetched g c).After-load_destination in
    let o = two g at c.if-not-load_destination.false (on c.pc.ensures.value c.if-pc-eq-OPSTWO.true) in
    let s = state_at_dispatch (view c.args.machine.now) in
    fetched_of c.load_destination.new.machine.cpu.memory s (after_first s) o.comes.holds.holds.sees

pub load_source-requires-clause-some : goal.load_source-requires-clause-some
load_source-requires-clause-some g c =
    let at = (goal.at.load_source-requires-clause-some g c).After-load_destination in
    let o = two g at c.if-not-load_destination.false (on c.pc.ensures.value c.if-pc-eq-OPSTWO.true) in
    let n = (few_bytes (word_of (state_at_dispatch (view c.args.machine.now)))).0 in let b = o.comes.holds.holds.bytes_are in omega arith

pub load_source-requires-clause-few : goal.load_source-requires-clause-few
load_source-requires-clause-few g c =
    let at = (goal.at.load_source-requires-clause-few g c).After-load_destination in
    let o = two g at c.if-not-load_destination.false (on c.pc.ensures.value c.if-pc-eq-OPSTWO.true) in
    let n = (few_bytes (word_of (state_at_dispatch (view c.args.machine.now)))).1 in let b = o.comes.holds.holds.bytes_are in omega arith

pub returns-then-pc-eq-OPSTWO : goal.returns-then-pc-eq-OPSTWO
returns-then-pc-eq-OPSTWO g c =
    let at = (goal.at.returns-then-pc-eq-OPSTWO g c).After-load_destination in
    let k = begun g at c.if-not-load_destination.false in
    let o = two g at c.if-not-load_destination.false (on c.pc.ensures.value c.if-pc-eq-OPSTWO.true) in
    let s = state_at_dispatch (view c.args.machine.now) in
    RowStart.loaded s _ _ _ _ k o _ _ c.load_source.result (c.load_source.ensures s k.place o.has o.comes.holds)

pub returns : goal.returns
returns g c =
    let at = (goal.at.returns g c).After-load_destination in
    RowStart.one (state_at_dispatch (view c.args.machine.now)) _ _ _ _ (begun g at c.if-not-load_destination.false)
    (off c.pc.ensures.value c.if-pc-eq-OPSTWO.false)
