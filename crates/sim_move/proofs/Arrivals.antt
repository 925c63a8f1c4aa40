-- How a run arrives, by what a definition gives.
use Rattle.std.proofs.Common.{ℕ, ◌+◌, ◌∙◌, ◌≡◌, ◌≤◌, ap, arith, eqb, Err, false, Ok, refl, Result, sym}
use Rattle.std.proofs.lemmas.Bool.{eq-eqb}
use Rattle.sim_rows.proofs.Common.{◌>>=◌, comes, comes_on, Exit, Exits, GplState, GSTOP, is_turn_end, MachineState}
use Rattle.sim_rows.proofs.Common.{ReachesWithin, Reason, StoppedBy, View, view}
use Rattle.sim_rows.proofs.sim_operands.Ends.{EndsBy}
use Rattle.sim_rows.proofs.sim_operands.Facts.{not_both}
use Rattle.sim_move.specs.Moves.{Arrives}

-- The same as `EndsBy` of a run.
pub record Comes {X : Type 0} (most : ℕ) (s : GplState) (x y : MachineState) (before after to : ℕ)
    (Shows : X → View → Type 0) (r : Result X Reason) : Type 0 where
  pub by : Arrives most s x y before after to Shows r

pub comes_as_stated : {X : Type 0} {Shows : X → View → Type 0} {e : Exit} {most to : ℕ} {x y : MachineState} {t u : ℕ}
    (s : GplState) (r : Result X Reason) → Exits x y t u e → EndsBy e most to Shows (StoppedBy s) r →
    Comes most s x y t u to Shows r
comes_as_stated s (Ok found) run g = record { by = comes run g.by }
comes_as_stated s (Err reason) run g = record { by = comes run g.by }

module _ {X : Type 0} {s : GplState} {x y : MachineState} {t u at a : ℕ} {P : X → View → Type 0} where
  -- where it does not stop, and what follows there
  pub then_comes : {Y : Type 0} {z : MachineState} {w to b : ℕ} {R : Y → View → Type 0} (r : Result X Reason)
      (k : X → Result Y Reason) → is_turn_end at ≡ false → y.cpu.pc ≡ at → Comes a s x y t u at P r →
      ((found : X) → P found (view y) → Comes b s y z u w to R (k found)) → Comes (a + b) s x z t w to R (r >>= k)
  then_comes {z = z} {w = w} {to = to} {b = b} {R = R} (Ok found) k end here c next =
      let first = c.by in by (k found) (next found first.holds)
    where
      by : (q : Result _ Reason) → Comes b s y z u w to R q → Comes (a + b) s x z t w to R q
      by (Ok last) d = let first = c.by in record { by = comes_on a b first d.by end }
      by (Err reason) d = let first = c.by in record { by = comes_on a b first d.by end }
  then_comes (Err reason) k end here c next =
      let stop = c.by in absurd (not_both (is_turn_end at) (ap is_turn_end (sym here ∙ stop.is_at.pc)) end)

  -- where it stops
  pub comes_stopped : {Y : Type 0} {to b : ℕ} {R : Y → View → Type 0} (r : Result X Reason) (k : X → Result Y Reason) →
      a ≤ b → (y.cpu.pc ≡ at → ⊥) → Comes a s x y t u at P r → Comes b s x y t u to R (r >>= k)
  comes_stopped (Ok found) k le away c = let run = c.by in absurd (away run.is_at.pc)
  comes_stopped (Err reason) k le away c =
      let run = c.by in
      let w = run.within in
      record {
        by = record {
          count = run.count;
          within = omega arith;
          counted = run.counted;
          runs = run.runs;
          holds = run.holds;
          is_at = run.is_at;
        };
      }

  -- where it is, and why it stopped
  pub came : (r : Result X Reason) → Comes a s x y t u at P r → (y.cpu.pc ≡ GSTOP → ⊥) →
      (found : X) × (r ≡ Ok found) × ReachesWithin a x y t u at (P found)
  came (Ok found) c away = (found, refl, c.by)
  came (Err reason) c away = let run = c.by in absurd (away run.is_at.pc)

  pub stopped : (r : Result X Reason) → Comes a s x y t u at P r → eqb at GSTOP ≡ false → y.cpu.pc ≡ GSTOP →
      (reason : Reason) × (r ≡ Err reason) × ReachesWithin a x y t u GSTOP (StoppedBy s reason)
  stopped (Ok found) c other here =
      let run = c.by in absurd (not_both (eqb at GSTOP) (eq-eqb at GSTOP (sym run.is_at.pc ∙ here)) other)
  stopped (Err reason) c other here = (reason, refl, c.by)

  -- it comes nowhere else
  pub comes_there : (other : ℕ) (r : Result X Reason) → eqb at other ≡ false → eqb GSTOP other ≡ false →
      Comes a s x y t u at P r → y.cpu.pc ≡ other → ⊥
  comes_there other (Ok found) away stop c here =
      let run = c.by in not_both (eqb at other) (eq-eqb at other (sym run.is_at.pc ∙ here)) away
  comes_there other (Err reason) away stop c here =
      let run = c.by in not_both (eqb GSTOP other) (eq-eqb GSTOP other (sym run.is_at.pc ∙ here)) stop
