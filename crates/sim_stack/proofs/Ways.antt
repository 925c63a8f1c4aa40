-- Where the machine went that tested a stack: it stopped, or there was room.
use Rattle.std.proofs.Common.{ℕ, ◌-◌, ◌==◌, ◌∙◌, ◌≡◌, ap, Bool, false, if◌then◌else◌, nat_lt, refl, sym, true}
use Rattle.std.proofs.lemmas.Bool.{ne_eqb}
use Rattle.sim_rows.proofs.Common.{exit, Exit, Exits, GOTO, GSTOP, is_turn_end, MachineState, second_way}
use Rattle.sim_rows.proofs.Common.{IsAt, TAKE, View, view}
use Rattle.sim_rows.proofs.sim_view.Routines.{exit_then, exits_by}
use Rattle.sim_rows.specs.sim_view.Routines.{◌>>?◌}
use Rattle.sim_stack.specs.Pieces.{full, if_room}

module _ {x y : MachineState} {before middle : ℕ} where
  -- it stopped, and nothing follows
  pub stopped : {e : Exit} (f : View → Exit) → y.cpu.pc ≡ GSTOP → Exits x y before middle e →
      Exits x y before middle (e >>? f)
  stopped {e = e} f here run =
      let there : (e.to == GSTOP) ≡ true = ap (λ (n : ℕ). n == GSTOP) (sym run.is_at.pc ∙ here) in
      exits_by (rw there refl) run

  -- it went on
  pub goes_then : {z : MachineState} {after to : ℕ} {e : Exit} (f : View → Exit) → (y.cpu.pc ≡ GSTOP → ⊥) →
      Exits x y before middle e → IsAt y to → is_turn_end to ≡ false → Exits y z middle after (f (view y)) →
      Exits x z before after (e >>? f)
  goes_then {e = e} f elsewhere run at end last =
      let away : (e.to == GSTOP) ≡ false = ne_eqb e.to GSTOP (λ is. elsewhere (run.is_at.pc ∙ is)) in
      exits_by (rw away refl) (exit_then f run (ap is_turn_end (sym run.is_at.pc ∙ at.pc) ∙ end) last)

  -- there was room
  pub room : (bytes offset count : ℕ) (v : View) (on : Exit) → (y.cpu.pc ≡ GSTOP → ⊥) →
      Exits x y before middle (if_room bytes offset count v on) →
      (nat_lt (0xC2 - bytes) offset ≡ false) × Exits x y before middle on
  unfolding if_room
  room bytes offset count v on elsewhere run =
      second_way GSTOP x y before middle (nat_lt (0xC2 - bytes) offset) (full count v) on run refl elsewhere

  -- RTNC goes on at GOTO
  pub keeps : {b : Bool} {v : View} → (y.cpu.pc ≡ TAKE → ⊥) →
      Exits x y before middle (if b then exit 10 TAKE v else exit 11 GOTO v) →
      (b ≡ false) × Exits x y before middle (exit 11 GOTO v)
  keeps {b = b} {v = v} elsewhere run =
      second_way TAKE x y before middle b (exit 10 TAKE v) (exit 11 GOTO v) run refl elsewhere
