use Rattle.std.proofs.Common.{refl}
use Rattle.sim_rows.proofs.sim_operands.Ends.{goes_at, stays}
use Rattle.sim_move.specs.CopyPieces.{set_source, set_target}
use Rattle.sim_move.proofs.copy.start_copy.Goals as goal
use Rattle.sim_rows.specs.native_interp.declared.addresses.TheConstants.{SETR, SETW}

pub returns-then-place-eq-SETR : goal.returns-then-place-eq-SETR
returns-then-place-eq-SETR g c =
    goes_at c.pc-place.ensures.value SETR set_source _ c.begin_copy.ensures c.if-place-eq-SETR.true refl c.set_source.ensures

pub returns-then-place-eq-SETW : goal.returns-then-place-eq-SETW
returns-then-place-eq-SETW g c =
    stays c.pc-place.ensures.value SETR set_source c.begin_copy.ensures c.if-place-eq-SETR.false
    (goes_at c.pc-place.ensures.value SETW set_target _ c.begin_copy.ensures c.if-place-eq-SETW.true refl c.set_target.ensures)

pub returns-else-place-eq-SETW : goal.returns-else-place-eq-SETW
returns-else-place-eq-SETW g c =
    stays c.pc-place.ensures.value SETR set_source c.begin_copy.ensures c.if-place-eq-SETR.false
    (stays c.pc-place.ensures.value SETW set_target c.begin_copy.ensures c.if-place-eq-SETW.false c.begin_copy.ensures)
