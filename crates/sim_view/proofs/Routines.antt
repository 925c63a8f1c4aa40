-- Routines: one after another on the machine, and how they end, on views alone.
use Rattle.std.proofs.Common.{ℕ, ◌+◌, ◌<◌, ◌∙◌, ◌≡◌, ◌≤◌, ap, arith, false, refl, slice_index, subst, sym}
use Rattle.sim_view.specs.Prelude.{Exit, Exits, is_turn_end, MachineState, ReachesWithin, View, view}
use Rattle.sim_view.specs.Routines.{◌>>◌}
use Rattle.sim_view.proofs.Bridge.{is_view}
use Rattle.sim_view.proofs.Compose.{comes, Goes, runs_then}

-- ---- on the machine

module _ {x y : MachineState} {before middle : ℕ} where
  -- The view in the middle is known, so what follows it is known.
  pub exit_then : {e : Exit} (f : View → Exit) {z : MachineState} {after : ℕ} → Exits x y before middle e →
      is_turn_end e.to ≡ false → Exits y z middle after (f (view y)) → Exits x z before after (e >> f)
  exit_then {e = e} f {z = z} {after = after} d end last =
      let l : Exits y z middle after (f e.left) = subst (λ (v : View). Exits y z middle after (f v)) d.shows last in
      let a = d.counted in
      let b = l.counted in
      record {
        counted = omega arith;
        runs = runs_then e.count (f e.left).count x y z d.runs l.runs (ap is_turn_end d.is_at.pc ∙ end);
        shows = l.shows;
        is_at = l.is_at;
      }

  -- What is known of the view that a routine leaves is known of the machine's.
  pub shown : {e : Exit} (P : View → Type 0) → Exits x y before middle e → P e.left → P (view y)
  shown P d h = subst P (sym d.shows) h

  pub exits_by : {d e : Exit} → d ≡ e → Exits x y before middle d → Exits x y before middle e
  exits_by is h = subst (λ (k : Exit). Exits x y before middle k) is h

-- ---- on views

-- an exit of which all is known
pub just : (e : Exit) (most to : ℕ) → e.count ≤ most → e.to ≡ to → Goes e most to (λ w. w ≡ e.left)
just e most to le is = record { within = le; to_is = is; holds = refl }

-- The cells are bytes, as those of each machine.
abbrev pub AreBytes : View → Type 0
AreBytes w = (k : ℕ) → slice_index w.cells k < 256

-- How a routine ends: within a number of instructions, at an address, with a view of which something holds. The premise
-- is there for SHOW, which reads the character and its place from the cells: that a routine has stored bytes there is
-- known of a machine's cells, not of a list. Only what is left at the end is asked about, since SHOW, the last to read
-- cells, changes none. Who has the machine pays the premise, once for a row.
abbrev pub Ends : Exit → ℕ → ℕ → (View → Type 0) → Type 0
Ends e most to Holds = AreBytes e.left → Goes e most to Holds

module _ {to : ℕ} {R : View → Type 0} where
  pub first : (e : Exit) (f : View → Exit) {b : ℕ} → Ends (f e.left) b to R → Ends (e >> f) (e.count + b) to R
  first e f h fits =
      let g = h fits in
      let w = g.within in
      record { within = omega arith; to_is = g.to_is; holds = g.holds }

  pub regroup : (e : Exit) (f g : View → Exit) {b : ℕ} → Ends (e >> (λ w. f w >> g)) b to R → Ends (e >> f >> g) b to R
  regroup e f g h fits =
      let k = h fits in
      let w = k.within in
      record { within = omega arith; to_is = k.to_is; holds = k.holds }

  pub ends_in : (e : Exit) {a b : ℕ} → Ends e a to R → a ≤ b → Ends e b to R
  ends_in e h le fits =
      let g = h fits in
      let w = g.within in
      record { within = omega arith; to_is = g.to_is; holds = g.holds }

-- A row that ends so on views does on the machine.
pub comes_by : {x y : MachineState} {before after most to : ℕ} {e : Exit} {Holds : View → Type 0} →
    Exits x y before after e → Ends e most to Holds → ReachesWithin most x y before after to Holds
comes_by {y = y} run ends = comes run (ends (subst AreBytes run.shows (is_view y run.is_at.machine).cells))
