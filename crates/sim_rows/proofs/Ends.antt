-- What a view at one of the interpreter's ends says of its machine.
use Rattle.std.proofs.Common.{ℕ, ◌+◌, ◌<◌, ◌∙◌, ◌≡◌, ◌≤◌, ap, arith, Err, false, is_none, List, lit<, not, Ok, refl, Result, slice_index, subst, suc}
use Rattle.std.proofs.Common.{sym, true, zero}
use Rattle.sim_view.proofs.Common.{given, holds_register, previous-next, runs_then}
use Rattle.sim_operands.proofs.Facts.{not_both}
use Rattle.sim_rows.specs.Prelude.{bound, ReachesWithin, Dispatched, ShowsEnd, GEXIT, Gives, GplState, GromState, GSTEP, GSTOP, HoldsRegister, is_turn_end}
use Rattle.sim_rows.specs.Prelude.{IsFetched, IsHalted, MachineState, Matches, Memory, next_in_grom, number_of, PortsAreIdle}
use Rattle.sim_rows.specs.Prelude.{from_dispatch, previous_in_grom, Reaches, Reason, Runs, shown_by, ShowsState, IsAt, IsStoppedBy, state_at_dispatch, state_of, whole_turn}
use Rattle.sim_rows.specs.Prelude.{step, StoppedBy, Turn, Turned, TurnedBy, VdpState, View, view, view_of}
use Rattle.sim_view.specs.gpl_step_defs.declared.reason.Reason.TheVariants.{Exit}
use Rattle.sim_view.specs.interp_defs.Interpreter.{bound_to_dispatch}

-- a state of parts
abbrev pub made : List ℕ → List ℕ → List ℕ → ℕ → List ℕ → GplState
made cells vdp registers pc image = record { cells = cells; vdp = vdp; registers = registers; pc = pc; image = image }

pub same_state : (c c2 v v2 r r2 : List ℕ) (p p2 : ℕ) (i i2 : List ℕ) → c ≡ c2 → v ≡ v2 → r ≡ r2 → p ≡ p2 → i ≡ i2 → made c v r p i ≡ made c2 v2 r2 p2 i2
same_state c c2 v v2 r r2 p p2 i i2 a b d e f =
    ap (λ x. made x v r p i) a ∙ ap (λ x. made c2 x r p i) b ∙ ap (λ x. made c2 v2 x p i) d ∙ ap (λ x. made c2 v2 r2 x i) e ∙ ap (λ x. made c2 v2 r2 p2 x) f

-- The ports of a memory whose view shows a state.
pub idle_of : (m : Memory) (s : GplState) (at : ℕ) → ShowsState s at (view_of m) → PortsAreIdle m
unfolding view_of
idle_of m s at h = record { vdp = ap is_none h.held; grom = ap (λ (g : GromState). not g.half_written) h.grom }

pub fetched_of : (m : Memory) (s : GplState) (at : ℕ) → ShowsState s at (view_of m) → IsFetched m.grom
unfolding view_of
fetched_of m s at h = subst IsFetched (sym h.grom) (ap (slice_index s.image) (sym (previous-next at)))

pub shown_is : (m : Memory) → shown_by m ≡ state_of (view_of m)
unfolding view_of
shown_is m = refl

state_is : (w : View) (s : GplState) → ShowsState s s.pc w → state_of w ≡ s
state_is w s h =
    same_state w.cells s.cells w.vdp.memory s.vdp w.vdp.registers s.registers (previous_in_grom w.grom.counter) s.pc w.grom.image s.image
    h.cells h.vdp h.registers (ap (λ (g : GromState). previous_in_grom g.counter) h.grom ∙ previous-next s.pc) (ap (λ (g : GromState). g.image) h.grom)

-- the state that is shown at dispatch
pub state_at : (w : View) (s : GplState) → Dispatched s w → state_at_dispatch w ≡ s
state_at w s d =
    let h = d.sees in
    let counter = ap (λ (g : GromState). previous_in_grom (previous_in_grom g.counter)) h.grom in
    same_state w.cells s.cells w.vdp.memory s.vdp w.vdp.registers s.registers (previous_in_grom (previous_in_grom w.grom.counter)) s.pc w.grom.image s.image
    h.cells h.vdp h.registers (counter ∙ ap previous_in_grom (previous-next (next_in_grom s.pc)) ∙ previous-next s.pc) (ap (λ (g : GromState). g.image) h.grom)

pub matches : (s : GplState) (y : MachineState) → IsAt y GSTEP → ShowsState s s.pc (view y) → Matches s y
matches s y is_at h = record {
  matching = record {
    pc = is_at.pc;
    wp = is_at.wp;
    words = is_at.words;
    idle = idle_of y.cpu.memory s s.pc h;
    fetched = fetched_of y.cpu.memory s s.pc h;
  };
  shows = shown_is y.cpu.memory ∙ state_is (view y) s h;
}

cells_of : (m : Memory) → (shown_by m).cells ≡ (view_of m).cells
unfolding view_of
cells_of m = refl

vdp_of : (m : Memory) → m.vdp ≡ (view_of m).vdp
unfolding view_of
vdp_of m = refl

grom_of : (m : Memory) → m.grom ≡ (view_of m).grom
unfolding view_of
grom_of m = refl

pub leaves : (s : GplState) (y : MachineState) → IsAt y GEXIT → ShowsEnd s (view y) → IsHalted s Exit y
leaves s y is_at h = record {
  cells = cells_of y.cpu.memory ∙ h.cells;
  vdp = ap (λ (d : VdpState). d.memory) (vdp_of y.cpu.memory) ∙ h.vdp;
  registers = ap (λ (d : VdpState). d.registers) (vdp_of y.cpu.memory) ∙ h.registers;
  image = ap (λ (g : GromState). g.image) (grom_of y.cpu.memory) ∙ h.image;
  wp = is_at.wp;
  address = holds_register y.cpu.memory 1 is_at.machine.memory (lit< tt) ∙ ap Gives h.address;
  is_at = is_at.pc;
}

-- where a program stops by another reason than EXIT
stopped_with : (reason : Reason) (y : MachineState) → (reason ≡ Exit → ⊥) → (y.cpu.pc ≡ GSTOP) × HoldsRegister y.cpu.memory 0 (number_of reason) →
    IsStoppedBy reason y
stopped_with Exit y other h = absurd (other refl)
stopped_with _ y other h = h

pub stops : (s : GplState) (reason : Reason) (y : MachineState) → (reason ≡ Exit → ⊥) → IsAt y GSTOP → StoppedBy s reason (view y) → IsHalted s reason y
stops s reason y other is_at h = record {
  cells = cells_of y.cpu.memory ∙ h.ended.cells;
  vdp = ap (λ (d : VdpState). d.memory) (vdp_of y.cpu.memory) ∙ h.ended.vdp;
  registers = ap (λ (d : VdpState). d.registers) (vdp_of y.cpu.memory) ∙ h.ended.registers;
  image = ap (λ (g : GromState). g.image) (grom_of y.cpu.memory) ∙ h.ended.image;
  wp = is_at.wp;
  address = holds_register y.cpu.memory 1 is_at.machine.memory (lit< tt) ∙ ap Gives h.ended.address;
  is_at = stopped_with reason y other (is_at.pc, holds_register y.cpu.memory 0 is_at.machine.memory (lit< tt) ∙ ap Gives h.reason_is);
}

-- ---- turns

-- a run from elsewhere to an end has an instruction
operand_list : (count : ℕ) (x y : MachineState) → Runs count x y → is_turn_end x.cpu.pc ≡ false → is_turn_end y.cpu.pc ≡ true → 0 < count
operand_list zero x y r a b = absurd (not_both (is_turn_end x.cpu.pc) (ap (λ (z : MachineState). is_turn_end z.cpu.pc) (given x y r.leads) ∙ b) a)
operand_list (suc count) x y r a b = omega arith

-- what is reached from a dispatch
pub reaches : {x y : MachineState} {before after most to : ℕ} {Q : View → Type 0} (led bound : ℕ) → ReachesWithin most x y before after to Q →
    is_turn_end x.cpu.pc ≡ false → is_turn_end to ≡ true → led + most ≤ bound → Reaches bound x y (record { led_at_most = led; before = before; after = after })
reaches {x = x} {y = y} led bound c start end fits =
    let w = c.within in
    let there = ap is_turn_end c.is_at.pc ∙ end in
    record {
      count = c.count;
      within = omega arith;
      counted = c.counted;
      turn = record { some = operand_list c.count x y c.runs start there; runs = c.runs; there = there };
    }

-- the beginning of a step before a turn from its dispatch
pub reaches_from : {x y z : MachineState} {before middle after to bound : ℕ} {Q : View → Type 0} → ReachesWithin bound_to_dispatch x y before middle to Q →
    Reaches bound y z (from_dispatch middle after) → is_turn_end to ≡ false → Reaches bound x z (whole_turn before after)
reaches_from {x = x} {y = y} {z = z} c r start =
    let w = c.within in
    let a = c.counted in
    let b = r.counted in
    let d = r.within in
    let e = r.turn.some in
    record {
      count = c.count + r.count;
      within = omega arith;
      counted = omega arith;
      turn = record { some = omega arith; runs = runs_then c.count r.count x y z c.runs r.turn.runs (ap is_turn_end c.is_at.pc ∙ start); there = r.turn.there };
    }

from_by : {x y : MachineState} {before middle to : ℕ} {Q : View → Type 0} (z : MachineState) (after : ℕ) (s : GplState) (r : Result GplState Reason)
    (turn : Turn) → ReachesWithin bound_to_dispatch x y before middle to Q → is_turn_end to ≡ false →
    TurnedBy r s y z (from_dispatch middle after) turn → TurnedBy r s x z (whole_turn before after) turn
from_by z after s (Ok next) turn c e t = (t.0, reaches_from c t.1 e, t.2)
from_by z after s (Err reason) turn c e t = (t.0, reaches_from c t.1 e, t.2)

pub turned_from : {x y : MachineState} {before middle to : ℕ} {Q : View → Type 0} (z : MachineState) (after : ℕ) (s : GplState) (turn : Turn) →
    ReachesWithin bound_to_dispatch x y before middle to Q → is_turn_end to ≡ false →
    Turned s y z (from_dispatch middle after) turn → Turned s x z (whole_turn before after) turn
turned_from z after s turn c e t = from_by z after s (step s) turn c e t

-- a turn by what the step is
pub turned_by : (x y : MachineState) (before after led : ℕ) (turn : Turn) (s : GplState) (r : Result GplState Reason) → step s ≡ r →
    TurnedBy r s x y (record { led_at_most = led; before = before; after = after }) turn → Turned s x y (record { led_at_most = led; before = before; after = after }) turn
turned_by x y before after led turn s r e t = subst (λ (q : Result GplState Reason). TurnedBy q s x y (record { led_at_most = led; before = before; after = after }) turn) (sym e) t
