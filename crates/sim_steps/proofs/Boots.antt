-- From boot to the first step.
use Rattle.std.proofs.Common.{ℕ, ◌<◌, ◌||◌, ◌∙◌, ◌≡◌, ap, arith, Bool, eqb, false, None, refl, suc, sym, true, zero}
use Rattle.sim_rows.proofs.Common.{comes, comes_then, Exits, from, GBOOT, given, Gives, Goes, goes_in, GSTEP, just, MachineState, matches, Runs, SEEK, ShowsState}
use Rattle.sim_rows.proofs.Common.{set_is, IsAt, steps, View, view}
use Rattle.sim_rows.specs.sim_operands.Pieces as operands
use Rattle.sim_steps.specs.Starting.{StartsProgram, booted}
use Rattle.sim_steps.specs.Pieces as pieces

left_is : (a b : Bool) → (a || b) ≡ false → a ≡ false
left_is true b e = absurd (cc)
left_is false b e = refl

-- a run that begins elsewhere reaches the first step no sooner
before_is : (count : ℕ) (x y : MachineState) → Runs count x y → eqb x.cpu.pc GSTEP ≡ false →
    (before : ℕ) → before < count → (z : MachineState) → steps before x ≡ Gives z → eqb z.cpu.pc GSTEP ≡ false
before_is count x y r start zero less z e = ap (λ (m : MachineState). eqb m.cpu.pc GSTEP) (sym (given x z e)) ∙ start
before_is count x y r start (suc more) less z e = left_is _ _ (r.clear (suc more) (omega arith) less z e)

module _ (x a y : MachineState) (t u v : ℕ) (is_at : IsAt x GBOOT) (held : (view x).vdp.held ≡ None) (idle : (view x).grom.half_written ≡ false)
    (fits : (view x).r.r0 < 65536) where
  abbrev booting : View
  booting = (pieces.boot (view x)).left

  after_seek : Goes (operands.seek booting) 3 GSTEP (ShowsState (booted (view x)) (booted (view x)).pc)
  after_seek =
      goes_in (omega arith) (record { cells = refl; vdp = refl; registers = refl; held = held; grom = set_is (view x).grom (view x).r.r0 idle fits })

  pub begins : Exits x a t u (pieces.boot (view x)) → Exits a y u v (operands.seek (view a)) → StartsProgram (booted (view x)) 10 x y t v
  begins e1 e2 =
      let c1 = comes e1 (just (pieces.boot (view x)) 7 SEEK (omega arith) refl) in
      let c = comes_then 7 3 c1 e2 (from operands.seek c1.holds after_seek) refl in
      record {
        count = c.count;
        within = c.within;
        counted = c.counted;
        boots = record { leads = c.runs.leads; there = c.is_at.pc; first = before_is c.count x y c.runs (ap (λ (p : ℕ). eqb p GSTEP) is_at.pc) };
        matches = matches (booted (view x)) y c.is_at c.holds;
      }
