use Rattle.std.proofs.Common.{◌∙◌, ◌≡◌, arith}
use Rattle.sim_view.proofs.Common.{off, on}
use Rattle.sim_rows.specs.Prelude.{ROW}
use Rattle.sim_view.specs.native_interp.declared.addresses.TheConstants.{STROW}
use Rattle.sim_rows.proofs.FirstOperand
use Rattle.sim_rows.proofs.RowStart.{is_at_address}
use Rattle.sim_rows.proofs.row.request_destination.Goals as goal

pub request_first-requires : goal.request_first-requires
request_first-requires g c =
    let x = c.args.machine.now in
    let not_stored : x.cpu.pc ≡ STROW → ⊥ = λ here. let a = c.pc-else-pc-eq-WIDE.ensures.value in let b = c.if-pc-eq-STROW.false in absurd (omega arith) in
    is_at_address ROW x (c.requires.is_at.pc ∙ (FirstOperand.narrow_here c.requires (off c.pc.ensures.value c.if-pc-eq-WIDE.false) not_stored).starts)
    c.requires.is_at

pub returns-then-pc-eq-WIDE : goal.returns-then-pc-eq-WIDE
returns-then-pc-eq-WIDE g c = FirstOperand.asks_wide c.requires (on c.pc.ensures.value c.if-pc-eq-WIDE.true) c.request_wide.ensures

pub returns-then-pc-eq-STROW : goal.returns-then-pc-eq-STROW
returns-then-pc-eq-STROW g c =
    let here : c.args.machine.now.cpu.pc ≡ STROW = let a = c.pc-else-pc-eq-WIDE.ensures.value in let b = c.if-pc-eq-STROW.true in omega arith in
    FirstOperand.asks_stored c.requires here c.request_stored.ensures

pub returns-else-pc-eq-STROW : goal.returns-else-pc-eq-STROW
returns-else-pc-eq-STROW g c =
    let x = c.args.machine.now in
    let not_stored : x.cpu.pc ≡ STROW → ⊥ = λ here. let a = c.pc-else-pc-eq-WIDE.ensures.value in let b = c.if-pc-eq-STROW.false in absurd (omega arith) in
    FirstOperand.asks_first c.requires (off c.pc.ensures.value c.if-pc-eq-WIDE.false) not_stored c.request_first.ensures
