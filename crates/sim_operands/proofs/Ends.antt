-- How a stretch ends, by what a definition gives: on views, and on the machine.
use Rattle.std.proofs.Common.{ℕ, ◌+◌, ◌==◌, ◌∙◌, ◌≡◌, ◌≤◌, ap, arith, eqb, Err, false, Ok, refl, Result, subst, sym, true}
use Rattle.std.proofs.lemmas.Bool.{eq-eqb, eqb-true, ne_eqb}
use Rattle.sim_view.proofs.Common.{◌>>=◌, Exit, Exits, Goes, GSTOP, MachineState, Reason, View, view}
use Rattle.sim_view.proofs.Routines.{exit_then, exits_by}
use Rattle.sim_view.specs.gpl_step_defs.declared.reason.Reason.TheVariants.{Cell}
use Rattle.sim_view.specs.Prelude.{is_turn_end}
use Rattle.sim_view.specs.Routines.{◌>>◌}
use Rattle.sim_operands.specs.Routines.{go_on, on_at}
use Rattle.sim_operands.proofs.AddressPieces.{Answers}
use Rattle.sim_operands.proofs.Facts.{not_both}

-- ---- on views

pub went : (at : ℕ) (e : Exit) (f : View → Exit) (d : Exit) → (e.to == at) ≡ true → on_at at e f d ≡ (e >> f)
went at e f d is = rw is refl

pub stayed : (at : ℕ) (e : Exit) (f : View → Exit) (d : Exit) → (e.to == at) ≡ false → on_at at e f d ≡ d
stayed at e f d is = rw is refl

pub goes_after : {P : View → Type 0} {to : ℕ} (e : Exit) (f : View → Exit) (a : ℕ) {b : ℕ} → e.count ≤ a → Goes (f e.left) b to P →
    Goes (e >> f) (a + b) to P
goes_after e f a le g = let w = g.within in record { within = omega arith; to_is = g.to_is; holds = g.holds }

pub goes_within : {P : View → Type 0} {e : Exit} {a b to : ℕ} → Goes e a to P → a ≤ b → Goes e b to P
goes_within g le = let w = g.within in record { within = omega arith; to_is = g.to_is; holds = g.holds }

-- Within a number of instructions: at an address with what a definition gives, or stopped by its reason.
abbrev EndsIn : {X : Type 0} → Exit → ℕ → ℕ → (X → View → Type 0) → (Reason → View → Type 0) → Result X Reason → Type 0
EndsIn e most to Shows Stops (Ok found) = Goes e most to (Shows found)
EndsIn e most to Shows Stops (Err reason) = Goes e most GSTOP (Stops reason)

pub record EndsBy {X : Type 0} (e : Exit) (most to : ℕ) (Shows : X → View → Type 0) (Stops : Reason → View → Type 0)
    (r : Result X Reason) : Type 0 where
  pub by : EndsIn e most to Shows Stops r

module _ {X : Type 0} {to : ℕ} {Shows : X → View → Type 0} {Stops : Reason → View → Type 0} where
  pub after : (e : Exit) (f : View → Exit) (a : ℕ) {b : ℕ} (r : Result X Reason) → e.count ≤ a →
      EndsBy (f e.left) b to Shows Stops r → EndsBy (e >> f) (a + b) to Shows Stops r
  after e f a (Ok x) le g = record { by = goes_after e f a le g.by }
  after e f a (Err reason) le g = record { by = goes_after e f a le g.by }

  pub ends_within : {e : Exit} {a b : ℕ} (r : Result X Reason) → EndsBy e a to Shows Stops r → a ≤ b →
      EndsBy e b to Shows Stops r
  ends_within (Ok x) g le = record { by = goes_within g.by le }
  ends_within (Err reason) g le = record { by = goes_within g.by le }

  pub ends_as : {Other : Reason → View → Type 0} {e : Exit} {a : ℕ} (r : Result X Reason) →
      EndsBy e a to Shows Stops r → ((reason : Reason) (w : View) → Stops reason w → Other reason w) →
      EndsBy e a to Shows Other r
  ends_as (Ok x) g f = record { by = g.by }
  ends_as {e = e} (Err reason) g f =
      let k = g.by in record { by = record { within = k.within; to_is = k.to_is; holds = f reason e.left k.holds } }

  -- it did not stop
  pub gave : {e : Exit} {a : ℕ} (r : Result X Reason) → EndsBy e a to Shows Stops r → (e.to == GSTOP) ≡ false →
      (x : X) × (r ≡ Ok x) × Goes e a to (Shows x)
  gave (Ok x) g f = (x, refl, g.by)
  gave {e = e} (Err reason) g f = absurd (let k = g.by in not_both (e.to == GSTOP) (eq-eqb e.to GSTOP k.to_is) f)

-- an answer of a piece of ADDR
pub answered : {X : Type 0} (e : Exit) (few most to : ℕ) (Shows : X → View → Type 0) (Stops : Reason → View → Type 0)
    (r : Result X Reason) → few ≤ most → Answers r (λ x. Goes e most to (Shows x)) (Goes e few GSTOP (Stops Cell)) →
    EndsBy e most to Shows Stops r
answered e few most to Shows Stops (Ok x) le g = record { by = g }
answered e few most to Shows Stops (Err reason) le g =
    record { by = subst (λ (r : Reason). Goes e most GSTOP (Stops r)) (sym g.0) (goes_within g.1 le) }

-- what follows where it does not stop
pub then_ends : {X Y : Type 0} {to : ℕ} {P : X → View → Type 0} {R : Y → View → Type 0} {Stops : Reason → View → Type 0}
    (at : ℕ) (e : Exit) (f : View → Exit) {a b : ℕ} (r : Result X Reason) (k : X → Result Y Reason) →
    eqb GSTOP at ≡ false → EndsBy e a at P Stops r →
    ((x : X) → r ≡ Ok x → P x e.left → EndsBy (f e.left) b to R Stops (k x)) →
    EndsBy (go_on at e f) (a + b) to R Stops (r >>= k)
then_ends {to = to} {R = R} {Stops = Stops} at e f {a = a} {b = b} (Ok x) k other g next =
    let c = g.by in
    subst (λ (d : Exit). EndsBy d (a + b) to R Stops (k x)) (sym (went at e f e (eq-eqb e.to at c.to_is)))
    (after e f a (k x) c.within (next x refl c.holds))
then_ends {Stops = Stops} at e f {a = a} {b = b} (Err reason) k other g next =
    let c = g.by in
    record {
      by = subst (λ (d : Exit). Goes d (a + b) GSTOP (Stops reason))
          (sym (stayed at e f e (ap (λ (n : ℕ). eqb n at) c.to_is ∙ other))) (goes_within c (omega arith));
    }

-- what is made of what it gives
pub ends_into : {X Y : Type 0} {e : Exit} {a to : ℕ} {P : X → View → Type 0} {R : Y → View → Type 0}
    {Stops : Reason → View → Type 0} (r : Result X Reason) (g : X → Y) → EndsBy e a to P Stops r →
    ((x : X) (w : View) → P x w → R (g x) w) → EndsBy e a to R Stops (r >>= λ x. Ok (g x))
ends_into {e = e} (Ok x) g ends f =
    let k = ends.by in record { by = record { within = k.within; to_is = k.to_is; holds = f x e.left k.holds } }
ends_into (Err reason) g ends f = record { by = ends.by }

-- ---- on the machine

module _ {x y : MachineState} {before middle : ℕ} where
  pub not_at : (at : ℕ) {e : Exit} → Exits x y before middle e → (y.cpu.pc ≡ at → ⊥) → (e.to == at) ≡ false
  not_at at {e = e} run away = ne_eqb e.to at (λ q. away (run.is_at.pc ∙ q))

  pub goes_on : (at : ℕ) (f : View → Exit) (d : Exit) {e : Exit} {z : MachineState} {last : ℕ} →
      Exits x y before middle e → (e.to == at) ≡ true → is_turn_end at ≡ false → Exits y z middle last (f (view y)) →
      Exits x z before last (on_at at e f d)
  goes_on at f d {e = e} run is end next =
      exits_by (sym (went at e f d is)) (exit_then f run (ap is_turn_end (eqb-true e.to at is) ∙ end) next)

  pub ends_there : (at : ℕ) (e : Exit) (f : View → Exit) {d : Exit} → Exits x y before middle d → (e.to == at) ≡ false →
      Exits x y before middle (on_at at e f d)
  ends_there at e f {d = d} run is = exits_by (sym (stayed at e f d is)) run

  -- by what a test of the program counter has found
  module _ {found : ℕ} (is : found ≡ y.cpu.pc) where
    pub goes_at : (at : ℕ) (f : View → Exit) (d : Exit) {e : Exit} {z : MachineState} {last : ℕ} →
        Exits x y before middle e → found ≡ at → is_turn_end at ≡ false → Exits y z middle last (f (view y)) →
        Exits x z before last (on_at at e f d)
    goes_at at f d {e = e} run here = goes_on at f d run (eq-eqb e.to at (sym run.is_at.pc ∙ sym is ∙ here))

    pub stays : (at : ℕ) (f : View → Exit) {d e : Exit} {z : MachineState} {last : ℕ} → Exits x y before middle e →
        (found ≡ at → ⊥) → Exits x z before last d → Exits x z before last (on_at at e f d)
    stays at f {d = d} {e = e} run away other = exits_by (sym (stayed at e f d (not_at at run (λ q. away (is ∙ q))))) other
