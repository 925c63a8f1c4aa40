-- One stretch after another.
use Rattle.std.proofs.Common.{refl, ◌≡◌, ℕ, ◌+◌, ◌-◌, ◌<◌, ◌≤◌, false, sym, ap, subst, ◌∙◌, arith, ⊎_elim}
use Rattle.std.proofs.lemmas.Bool.{cases_order}
use Rattle.sim_view.specs.Prelude.{ReachesWithin, Exit, Exits, is_turn_end, MachineState, Runs, IsAt, steps, View, view}
use Rattle.tms_defs.specs.Accesses.{Answer, Gives, ◌>>=◌}
use Rattle.console_defs.proofs.RunLaws.{steps-add}
use Rattle.sim_view.proofs.Answers.{given, given_by}

-- the state after some steps, where another is reached on the way
at_step : (a i : ℕ) (x y w : MachineState) → steps a x ≡ Gives y → steps (a + i) x ≡ Gives w → steps i y ≡ Gives w
at_step a i x y w e f =
    let s = sym (steps-add a i x) ∙ f in
    let t = given_by (steps a x) (steps i) w s in
    let g : Gives t.0 ≡ Gives y = sym t.1 ∙ e in
    subst (λ (u : MachineState). steps i u ≡ Gives w) (given t.0 y g) t.2

pub runs_then : (a b : ℕ) (x y z : MachineState) → Runs a x y → Runs b y z → is_turn_end y.cpu.pc ≡ false → Runs (a + b) x z
runs_then a b x y z r s e =
    let F : Answer MachineState → Answer MachineState = λ o. o >>= steps b in
    record { leads = steps-add a b x ∙ ap F r.leads ∙ s.leads; clear = clear_at }
  where
    clear_at : (j : ℕ) → 0 < j → j < a + b → (w : MachineState) → steps j x ≡ Gives w → is_turn_end w.cpu.pc ≡ false
    clear_at j p l w f =
        ⊎_elim
        (λ (h : j ≡ a). let g : Gives y ≡ Gives w = sym r.leads ∙ subst (λ (i : ℕ). steps i x ≡ Gives w) h f in
        subst (λ (u : MachineState). is_turn_end u.cpu.pc ≡ false) (given y w g) e)
        (λ h. ⊎_elim
        (λ (lt : j < a). r.clear j p lt w f)
        (λ (gt : a < j). let i = j - a in let d : j ≡ a + i = omega arith in s.clear i (omega arith) (omega arith) w
        (at_step a i x y w r.leads (subst (λ (i : ℕ). steps i x ≡ Gives w) d f))) h)
        (cases_order j a)

-- How a stretch ends, in bounds: within a number of instructions, at an address, with a view of which something holds.
pub record Goes (e : Exit) (most to : ℕ) (Holds : View → Type 0) : Type 0 where
  pub within : e.count ≤ most
  pub to_is : e.to ≡ to
  pub holds : Holds e.left

-- an exit that is at hand
pub goes_in : {P : View → Type 0} {n most to : ℕ} {w : View} → n ≤ most → P w → Goes (record { count = n; to = to; left = w }) most to P
goes_in within holds = record { within = within; to_is = refl; holds = holds }

pub comes : {x y : MachineState} {before after most to : ℕ} {e : Exit} {Q : View → Type 0} → Exits x y before after e → Goes e most to Q →
    ReachesWithin most x y before after to Q
comes {y = y} {e = e} {Q = Q} x g = record {
  count = e.count;
  within = g.within;
  counted = x.counted;
  runs = x.runs;
  holds = subst Q (sym x.shows) g.holds;
  is_at = subst (λ (p : ℕ). IsAt y p) g.to_is x.is_at;
}

-- A stretch within bounds, and then another.
pub comes_then : (a b : ℕ) {x y z : MachineState} {before middle after p q : ℕ} {e : Exit} {Q R : View → Type 0} → ReachesWithin a x y before middle p Q →
    Exits y z middle after e → Goes e b q R → is_turn_end p ≡ false → ReachesWithin (a + b) x z before after q R
comes_then a b {x = x} {y = y} {z = z} {e = e} {R = R} c d g end =
    let u = c.counted in
    let v = d.counted in
    let w = c.within in
    let m = g.within in
    record {
      count = c.count + e.count;
      within = omega arith;
      counted = omega arith;
      runs = runs_then c.count e.count x y z c.runs d.runs (ap is_turn_end c.is_at.pc ∙ end);
      holds = subst R (sym d.shows) g.holds;
      is_at = subst (λ (p : ℕ). IsAt z p) g.to_is d.is_at;
    }

pub comes_as : {most to : ℕ} {x y : MachineState} {before after : ℕ} {Q : View → Type 0} (more : ℕ) (R : View → Type 0) → ReachesWithin most x y before after to Q →
    most ≤ more → ((v : View) → Q v → R v) → ReachesWithin more x y before after to R
comes_as {y = y} more R c le f =
    let w = c.within in
    record { count = c.count; within = omega arith; counted = c.counted; runs = c.runs; holds = f (view y) c.holds; is_at = c.is_at }

-- The same for a stretch within bounds, stated of the view in the middle.
pub comes_on : (a b : ℕ) {x y z : MachineState} {before middle after p q : ℕ} {Q R : View → Type 0} → ReachesWithin a x y before middle p Q →
    ReachesWithin b y z middle after q R → is_turn_end p ≡ false → ReachesWithin (a + b) x z before after q R
comes_on a b {x = x} {y = y} {z = z} c d end =
    let u = c.counted in
    let v = d.counted in
    let w = c.within in
    let m = d.within in
    record {
      count = c.count + d.count;
      within = omega arith;
      counted = omega arith;
      runs = runs_then c.count d.count x y z c.runs d.runs (ap is_turn_end c.is_at.pc ∙ end);
      holds = d.holds;
      is_at = d.is_at;
    }
