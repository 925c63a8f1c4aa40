use Rattle.std.proofs.Common.{ℕ, ◌==◌, ◌≡◌, arith, false, refl}
use Rattle.std.proofs.lemmas.Bool.{eq-eqb, ne_eqb}
use Rattle.sim_view.proofs.Common.{off, on}
use Rattle.sim_view.proofs.Routines.{exit_then, exits_by, shown}
use Rattle.sim_operands.specs.Routines.{CanStore, store}
use Rattle.sim_rows.specs.Prelude.{exit, Exits, MachineState, STORE, view}
use Rattle.sim_rows.proofs.Routines.{drawing}
use Rattle.sim_rows.specs.Pieces as piece
use Rattle.sim_rows.specs.Routines.{end_row}
use Rattle.sim_rows.proofs.tail.end_row_routine.Goals as goal

draws : {x y : MachineState} {t u : ℕ} → ((view x).r.r13 == 0) ≡ false → Exits x y t u (piece.show (view x)) →
    Exits x y t u (exit 13 STORE (drawing (view x)))
draws is run = exits_by (rw is refl) run

pub returns-then-register-eq0 : goal.returns-then-register-eq0
unfolding end_row
returns-then-register-eq0 g c =
    exits_by (rw (eq-eqb _ 0 (on c.register.ensures c.if-register-eq0.true)) refl) c.show.ensures

pub store_routine-requires-clause-is_at : goal.store_routine-requires-clause-is_at
store_routine-requires-clause-is_at g c =
    (draws (ne_eqb _ 0 (off c.register.ensures c.if-register-eq0.false)) c.show-2.ensures).is_at

pub store_routine-requires-clause-visible : goal.store_routine-requires-clause-visible
store_routine-requires-clause-visible g c =
    shown CanStore (draws (ne_eqb _ 0 (off c.register.ensures c.if-register-eq0.false)) c.show-2.ensures)
    (λ z. absurd (omega arith))

pub returns : goal.returns
unfolding end_row
returns g c =
    let some = ne_eqb _ 0 (off c.register.ensures c.if-register-eq0.false) in
    exits_by (rw some refl) (exit_then store (draws some c.show-2.ensures) refl c.store_routine.ensures)
