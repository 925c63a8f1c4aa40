-- The changes that STORE makes.
use Rattle.std.proofs.Common.{ℕ, ◌%◌, ◌+◌, ◌==◌, ◌||◌, ◌∙◌, ◌≡◌, ap, arith, Bool, false, List, refl, subst, sym, true}
use Rattle.sim_view.proofs.Common.{comes_as, previous-next}
use Rattle.sim_rows.specs.Prelude.{Byte, ShowsChanges, Changes, ReachesWithin, Cpu, GplState, grom_at, GromState, high}
use Rattle.sim_rows.specs.Prelude.{low, MachineState, marked_by, number_of_space, of_register, Place, place_in}
use Rattle.sim_rows.specs.Prelude.{PortsAreIdle, previous_in_grom, return_of, size_of, Space, state_of, Stored}
use Rattle.sim_rows.specs.Prelude.{StoresValue, Storing, unchanged, Vdp, View, view, Width, width_in, with_byte_in}
use Rattle.sim_rows.specs.Prelude.{with_value, Word}
use Rattle.sim_operands.proofs.Ready.{idle_grom, idle_video}
use Rattle.sim_rows.proofs.Again.{ports_are_idle}
use Rattle.sim_rows.proofs.FirstOperand.{place_is}
use Rattle.sim_rows.proofs.Ends.{same_state}
use Rattle.sim_view.specs.Bounds.{bound_of_store}

pub width_again : (w : Width) → width_in (size_of w) ≡ w
width_again Byte = refl
width_again Word = refl

-- they keep the image and the place in GROM
byte_keeps : (space : Space) (address byte : ℕ) (c : Changes) → ((with_byte_in space address byte c).state.image ≡ c.state.image) ×
    ((with_byte_in space address byte c).state.pc ≡ c.state.pc)
byte_keeps Cpu address byte c = (refl, refl)
byte_keeps Vdp address byte c = (refl, refl)

pub value_keeps : (w : Width) (place : Place) (number : ℕ) (c : Changes) → ((with_value w place number c).state.image ≡ c.state.image) ×
    ((with_value w place number c).state.pc ≡ c.state.pc)
value_keeps Byte place number c = byte_keeps place.space place.address number c
value_keeps Word place number c =
    let a = byte_keeps place.space place.address (high number) c in
    let b = byte_keeps place.space ((place.address + 1) % 65536) (low number) (with_byte_in place.space place.address (high number) c) in
    (b.0 ∙ a.0, b.1 ∙ a.1)

-- after other changes the same is stored, and what was marked stays marked
one_mark : (a s : Bool) → marked_by (a || s) 0 ≡ marked_by (a || false) (marked_by s 0)
one_mark true s = refl
one_mark false s = refl

two_marks : (a b s : Bool) → marked_by (a || (b || s)) 0 ≡ marked_by (a || (b || false)) (marked_by s 0)
two_marks false true s = refl
two_marks _ _ s = refl

abbrev pub Splits : Changes → Changes → Changes → Type 0
Splits c alone both = (both.state ≡ alone.state) × (marked_by both.shows 0 ≡ marked_by alone.shows (marked_by c.shows 0))

byte_splits : (space : Space) (address byte : ℕ) (c : Changes) → Splits c (with_byte_in space address byte (unchanged c.state))
    (with_byte_in space address byte c)
byte_splits Cpu address byte c = (refl, one_mark (address == 0x7D) c.shows)
byte_splits Vdp address byte c = (refl, refl)

word_splits : (space : Space) (first second more less : ℕ) (c : Changes) →
    Splits c (with_byte_in space second less (with_byte_in space first more (unchanged c.state)))
    (with_byte_in space second less (with_byte_in space first more c))
word_splits Cpu first second more less c = (refl, two_marks (second == 0x7D) (first == 0x7D) c.shows)
word_splits Vdp first second more less c = (refl, refl)

pub value_splits : (w : Width) (place : Place) (number : ℕ) (c : Changes) → Splits c (with_value w place number (unchanged c.state)) (with_value w place number c)
value_splits Byte place number c = byte_splits place.space place.address number c
value_splits Word place number c = word_splits place.space place.address ((place.address + 1) % 65536) (high number) (low number) c

-- the state that a view shows with the changes
pub state_is : (c : Changes) (v : View) → ShowsChanges c v → state_of v ≡ c.state
state_is c v h =
    same_state v.cells c.state.cells v.vdp.memory c.state.vdp v.vdp.registers c.state.registers (previous_in_grom v.grom.counter) c.state.pc v.grom.image
    c.state.image
    h.cells h.vdp h.registers (ap (λ (g : GromState). previous_in_grom g.counter) h.grom ∙ previous-next c.state.pc) (ap (λ (g : GromState). g.image) h.grom)

pub changes_are : (c : Changes) (width : Width) (place : Place) (number : ℕ) (v : View) → Storing c width place number v →
    with_value (width_in v.r.r3) (place_in v.r.r8 v.r.r7) (of_register (width_in v.r.r3) v.r.r9) (unchanged (state_of v)) ≡ with_value width place number
    (unchanged c.state)
changes_are c width place number v h =
    let w : width_in v.r.r3 ≡ width = ap width_in h.bytes_are ∙ width_again width in
    let p : place_in v.r.r8 v.r.r7 ≡ place = ap (λ n. place_in n v.r.r7) h.to_place.space ∙ ap (λ n. place_in (number_of_space place.space) n)
    h.to_place.address ∙ place_is place in
    ap (λ x. with_value x (place_in v.r.r8 v.r.r7) (of_register x v.r.r9) (unchanged (state_of v))) w
    ∙ ap (λ q. with_value width q (of_register width v.r.r9) (unchanged (state_of v))) p
    ∙ ap (λ m. with_value width place m (unchanged (state_of v))) h.value
    ∙ ap (λ s. with_value width place number (unchanged s)) (state_is c v h.changed)

-- the registers that STORE keeps
pub record Keeps (v w : View) : Type 0 where
  pub r0 : w.r.r0 ≡ v.r.r0
  pub r1 : w.r.r1 ≡ v.r.r1
  pub r2 : w.r.r2 ≡ v.r.r2
  pub r3 : w.r.r3 ≡ v.r.r3
  pub r5 : w.r.r5 ≡ v.r.r5
  pub r6 : w.r.r6 ≡ v.r.r6
  pub r7 : w.r.r7 ≡ v.r.r7
  pub r8 : w.r.r8 ≡ v.r.r8
  pub r10 : w.r.r10 ≡ v.r.r10
  pub r12 : w.r.r12 ≡ v.r.r12

pub record ChangedFrom (c : Changes) (v w : View) : Type 0 where
  pub changed : ShowsChanges c w
  pub keeps : Keeps v w

-- A number is stored after some changes.
pub store_then : (c : Changes) (width : Width) (place : Place) (number : ℕ) (x y : MachineState) (t u : ℕ) → Storing c width place number (view x) →
    StoresValue x y t u →
    ReachesWithin bound_of_store x y t u (return_of (view x)) (ChangedFrom (with_value width place number c) (view x))
store_then c width place number x y t u h l =
    let v : View = view x in
    let alone : Changes = with_value width place number (unchanged c.state) in
    let both : Changes = with_value width place number c in
    let l1 : ReachesWithin bound_of_store x y t u (return_of v) (Stored v alone) = subst (λ (k : Changes). ReachesWithin bound_of_store x y t u (return_of v) (Stored v k))
    (changes_are c width place number v h) l in
    let splits = value_splits width place number c in
    let keeps = value_keeps width place number c in
    comes_as 15 (ChangedFrom both v) l1 (omega arith) (λ w a. subst (ChangedFrom both v) (sym a.is) (record {
      changed = record {
        cells = ap (λ (s : GplState). s.cells) (sym splits.0);
        vdp = ap (λ (s : GplState). s.vdp) (sym splits.0);
        registers = ap (λ (s : GplState). s.registers) (sym splits.0);
        held = h.changed.held;
        grom = h.changed.grom ∙ ap (λ (l : List ℕ). grom_at l c.state.pc) (sym keeps.0) ∙ ap (λ (n : ℕ). grom_at both.state.image n) (sym keeps.1);
        mark = ap (λ n. marked_by alone.shows n) h.changed.mark ∙ sym splits.1;
      };
      keeps = record { r0 = refl; r1 = refl; r2 = refl; r3 = refl; r5 = refl; r6 = refl; r7 = refl; r8 = refl; r10 = refl; r12 = refl };
    }))

pub stored_idle : (x y : MachineState) (t u : ℕ) → PortsAreIdle x.cpu.memory → StoresValue x y t u → PortsAreIdle y.cpu.memory
stored_idle x y t u i l =
    let is = l.holds.is in
    ports_are_idle y.cpu.memory (ap (λ (w : View). w.vdp.held) is ∙ idle_video x.cpu.memory i) (ap (λ (w : View). w.grom.half_written) is ∙ idle_grom x.cpu.memory i)

-- ---- views with the same changes

pub changed_again : (c : Changes) (v w : View) → ShowsChanges c v → w.cells ≡ v.cells → w.vdp ≡ v.vdp → w.grom ≡ v.grom → w.r.r13 ≡ v.r.r13 → ShowsChanges c w
changed_again c v w h a d g m = record {
  cells = a ∙ h.cells;
  vdp = ap (λ p. p.memory) d ∙ h.vdp;
  registers = ap (λ p. p.registers) d ∙ h.registers;
  held = ap (λ p. p.held) d ∙ h.held;
  grom = g ∙ h.grom;
  mark = m ∙ h.mark;
}

pub storing_again : (c : Changes) (width : Width) (place : Place) (number : ℕ) (v w : View) → Storing c width place number v → w.cells ≡ v.cells →
    w.vdp ≡ v.vdp → w.grom ≡ v.grom →
    w.r.r13 ≡ v.r.r13 → w.r.r3 ≡ v.r.r3 → w.r.r7 ≡ v.r.r7 → w.r.r8 ≡ v.r.r8 → w.r.r9 ≡ v.r.r9 → Storing c width place number w
storing_again c width place number v w h a d g m r3 r7 r8 r9 = record {
  changed = changed_again c v w h.changed a d g m;
  bytes_are = r3 ∙ h.bytes_are;
  to_place = record { address = r7 ∙ h.to_place.address; space = r8 ∙ h.to_place.space };
  value = ap (of_register width) r9 ∙ h.value;
}
