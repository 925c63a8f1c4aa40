use Rattle.std.proofs.Common.{◌∙◌, sym}
use Rattle.sim_rows.proofs.Common.{off, on}
use Rattle.sim_move.proofs.Copies.{at_move, state}
use Rattle.sim_move.proofs.Dispatch
use Rattle.sim_move.proofs.family.run_move.Goals as goal

pub register-requires-clause-workspace : goal.register-requires-clause-workspace
register-requires-clause-workspace g c =
    Dispatch.workspace (state c.args.machine.now) (at_move c.requires) c.requires.family c.decode_move.ensures (on c.pc.ensures.value c.if-pc-eq-GSTOP.true)

pub unreachable-requires : goal.unreachable-requires
unreachable-requires g c =
    Dispatch.has_reason (state c.args.machine.now) (at_move c.requires) c.requires.family c.decode_move.ensures
    (on c.pc.ensures.value c.if-pc-eq-GSTOP.true)
    (λ reason is. sym c.in_default.is ∙ c.reason_of.ensures.found reason (is ∙ sym c.register.ensures))

pub returns-then-pc-eq-GSTOP : goal.returns-then-pc-eq-GSTOP
returns-then-pc-eq-GSTOP g c =
    Dispatch.stops_by (state c.args.machine.now) (at_move c.requires) c.requires.family c.decode_move.ensures
    (on c.pc.ensures.value c.if-pc-eq-GSTOP.true) c.in-Some.reason
    (λ reason is. sym c.in-Some.is ∙ c.reason_of.ensures.found reason (is ∙ sym c.register.ensures))

pub copy_bytes-requires : goal.copy_bytes-requires
copy_bytes-requires g c =
    Dispatch.may_copy (state c.args.machine.now) (at_move c.requires) c.requires.family c.decode_move.ensures (off c.pc.ensures.value c.if-pc-eq-GSTOP.false)

pub returns : goal.returns
returns g c =
    Dispatch.turned (state c.args.machine.now) (at_move c.requires) c.requires.family c.decode_move.ensures (off c.pc.ensures.value c.if-pc-eq-GSTOP.false)
    c.copy_bytes.ensures

pub decode_move-requires-clause-is_at : goal.decode_move-requires-clause-is_at
decode_move-requires-clause-is_at g c = at_move c.requires
