-- What a machine keeps whose view has the same ports, and where a run begins.
use Rattle.std.proofs.Common.{ℕ, ◌<◌, ◌∙◌, ◌≡◌, ap, arith, Bool, false, if◌then◌else◌, is_none, None, not, refl, subst, sym, true}
use Rattle.sim_rows.specs.Prelude.{ReachesWithin, Exit, Exits, GromState, IsFetched, MachineState, Memory, PortsAreIdle, Runs, IsAt, VdpState, View, view, view_of}

pub idle_again : (m n : Memory) → (view_of n).vdp ≡ (view_of m).vdp → (view_of n).grom ≡ (view_of m).grom → PortsAreIdle m → PortsAreIdle n
unfolding view_of
idle_again m n d g i = record { vdp = ap (λ (v : VdpState). is_none v.held) d ∙ i.vdp; grom = ap (λ (v : GromState). not v.half_written) g ∙ i.grom }

pub fetched_again : (m n : Memory) → (view_of n).grom ≡ (view_of m).grom → IsFetched m.grom → IsFetched n.grom
unfolding view_of
fetched_again m n g f = subst IsFetched (sym g) f

-- idle ports, by a view
pub ports_are_idle : (m : Memory) → (view_of m).vdp.held ≡ None → (view_of m).grom.half_written ≡ false → PortsAreIdle m
unfolding view_of
ports_are_idle m h g = record { vdp = ap is_none h; grom = ap not g }

-- where it went of two ways
pub first_way : (p : ℕ) (x a : MachineState) (t u : ℕ) (b : Bool) (first second : Exit) → Exits x a t u (if b then first else second) →
    (second.to ≡ p → ⊥) → a.cpu.pc ≡ p → (b ≡ true) × Exits x a t u first
first_way p x a t u true first second e other here = (refl, e)
first_way p x a t u false first second e other here = absurd (other (sym e.is_at.pc ∙ here))

pub second_way : (p : ℕ) (x a : MachineState) (t u : ℕ) (b : Bool) (first second : Exit) → Exits x a t u (if b then first else second) →
    first.to ≡ p → (a.cpu.pc ≡ p → ⊥) → (b ≡ false) × Exits x a t u second
second_way p x a t u true first second e is elsewhere = absurd (elsewhere (e.is_at.pc ∙ is))
second_way p x a t u false first second e is elsewhere = (refl, e)

nothing_before : (before : ℕ) → 0 < before → before < 0 → ⊥
nothing_before before a b = omega arith

-- a run of no instruction
pub no_run : (x : MachineState) → Runs 0 x x
no_run x = record { leads = refl; clear = λ before some less z e. absurd (nothing_before before some less) }

pub begins : (x : MachineState) (t p : ℕ) (Q : View → Type 0) → IsAt x p → Q (view x) → ReachesWithin 0 x x t t p Q
begins x t p Q is_at holds = record { count = 0; within = omega arith; counted = omega arith; runs = no_run x; holds = holds; is_at = is_at }
