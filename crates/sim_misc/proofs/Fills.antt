-- ALL from its dispatch to the end of the step.
use Rattle.std.proofs.Common.{[], ℕ, ◌*◌, ◌++◌, ◌+◌, ◌<◌, ◌==◌, ◌∙◌, ◌∷◌, ◌≡◌, ap, arith, Bool, drop, false, if◌then◌else◌, length, List, None, Ok, refl}
use Rattle.std.proofs.Common.{replicate, slice_index, slice_set, Some, subst, suc, sym, true, zero}
use Rattle.std.proofs.lemmas.Bool.{eqb-false, eqb-true, ne_eqb}
use Rattle.sim_rows.proofs.Common.{ALL, after_code, bound, bound_made, ReachesWithin, comes, comes_as, comes_then, difference_of, Dispatched, Exits, FILL, finished}
use Rattle.sim_rows.proofs.Common.{GOALL, Goes, GplState, grom_at, GromState, GSTEP, high, high-join, is_turn_end, is_view, MachineState, matches, bound_to_dispatch}
use Rattle.sim_rows.proofs.Common.{from_dispatch, next_in_grom, operation_in, past, pick, reaches, ShowsState, IsAt, step_byte, Stepped, Turned, turned_by, with_video_address}
use Rattle.sim_rows.proofs.Common.{unchanged, vdp_data_written, VdpState, View, view, with_immediate, Word}
use Rattle.sim_rows.specs.gpl_defs.declared.instruction.GplOperation.TheVariants.{Byte}
use Rattle.sim_misc.specs.Pieces as pieces

-- the byte, and a list whose first bytes are it
abbrev pub byte_of : GplState → ℕ
byte_of s = slice_index s.image (after_code s)

abbrev filled_to : ℕ → ℕ → List ℕ → List ℕ
filled_to made byte bytes = replicate made byte ++ drop made bytes

one_more : (made byte : ℕ) (bytes : List ℕ) → made < length bytes → slice_set (filled_to made byte bytes) made byte ≡ filled_to (suc made) byte bytes
one_more made byte [] h = absurd (omega arith)
one_more zero byte (first ∷ rest) h = refl
one_more (suc made) byte (first ∷ rest) h = ap (λ (l : List ℕ). byte ∷ l) (one_more made byte rest (omega arith))

-- What is seen where a number of bytes of the screen are filled.
pub record Filled (s : GplState) (made : ℕ) (w : View) : Type 0 where
  pub cells : w.cells ≡ s.cells
  pub memory : w.vdp.memory ≡ filled_to made (byte_of s) s.vdp
  pub registers : w.vdp.registers ≡ s.registers
  pub held : w.vdp.held ≡ None
  pub grom : w.grom ≡ grom_at s.image (next_in_grom (after_code s))
  pub byte : high w.r.r9 ≡ byte_of s
  pub left : w.r.r12 + made ≡ 768
  pub address : w.vdp.address ≡ made

-- where the machine is then
abbrev pub place : ℕ → ℕ
place made = if made == 768 then GSTEP else FILL

more_left : (made : ℕ) → (made ≡ 768 → ⊥) → place made ≡ FILL
more_left made more = ap (λ (b : Bool). if b then GSTEP else FILL) (ne_eqb made 768 more)

-- the pair of bytes sets the address
address_set : (vdp : VdpState) → vdp.held ≡ None → with_video_address 0x4000 vdp ≡ record vdp { address = 0; held = None }
address_set vdp idle = rw idle refl

begin_goes : (s : GplState) (v : View) → Dispatched s v → Goes (pieces.begin_fill v) 6 FILL (Filled s 0)
begin_goes s v d =
    let h = d.sees in
    let set = address_set v.vdp h.held in
    record {
      within = omega arith;
      to_is = refl;
      holds = record {
        cells = h.cells;
        memory = ap (λ (vdp : VdpState). vdp.memory) set ∙ h.vdp;
        registers = ap (λ (vdp : VdpState). vdp.registers) set ∙ h.registers;
        held = ap (λ (vdp : VdpState). vdp.held) set;
        grom = ap past h.grom;
        byte = high-join v.grom.fetched v.r.r9 ∙ ap (λ (g : GromState). g.fetched) h.grom;
        left = refl;
        address = ap (λ (vdp : VdpState). vdp.address) set;
      };
    }

-- a byte more
abbrev with_byte : View → View
with_byte w = record w { r = record w.r { r12 = difference_of Word w.r.r12 1 }; vdp = vdp_data_written w.vdp (high w.r.r9) }

module _ (s : GplState) (made : ℕ) (w : View) (h : Filled s made w) (some : made < 768) (size : length s.vdp ≡ 16384) where
  -- the byte is stored after the others
  memory_is : slice_set w.vdp.memory w.vdp.address (high w.r.r9) ≡ filled_to (suc made) (byte_of s) s.vdp
  memory_is =
      ap (λ (l : List ℕ). slice_set l w.vdp.address (high w.r.r9)) h.memory
      ∙ ap (λ (n : ℕ). slice_set (filled_to made (byte_of s) s.vdp) n (high w.r.r9)) h.address
      ∙ ap (λ (n : ℕ). slice_set (filled_to made (byte_of s) s.vdp) made n) h.byte
      ∙ one_more made (byte_of s) s.vdp (omega arith)

  more_filled : Filled s (suc made) (with_byte w)
  more_filled =
      let left = h.left in
      let address = h.address in
      record {
        cells = h.cells;
        memory = memory_is;
        registers = h.registers;
        held = refl;
        grom = h.grom;
        byte = h.byte;
        left = omega arith;
        address = omega arith;
      }

  -- the last byte leads to the end of the step
  ends_at : (difference_of Word w.r.r12 1 == 0) ≡ true → place (suc made) ≡ GSTEP
  ends_at none =
      let left = h.left in
      let zero = eqb-true (difference_of Word w.r.r12 1) 0 none in
      let all : suc made ≡ 768 = omega arith in
      ap place all

  goes_on_at : (difference_of Word w.r.r12 1 == 0) ≡ false → place (suc made) ≡ FILL
  goes_on_at more = let left = h.left in more_left (suc made) (λ all. eqb-false (difference_of Word w.r.r12 1) 0 more (omega arith))

  pub fill_goes : Goes (pieces.fill_byte w) 4 (place (suc made)) (Filled s (suc made))
  fill_goes =
      pick (difference_of Word w.r.r12 1 == 0)
      (λ c. rw (c, pieces.fill_byte) (record { within = omega arith; to_is = sym (ends_at c); holds = more_filled }))
      (λ c. rw (c, pieces.fill_byte) (record { within = omega arith; to_is = sym (goes_on_at c); holds = more_filled }))

-- ---- the loop

-- So many bytes were filled on the way from x to z.
abbrev pub Filling : GplState → ℕ → MachineState → MachineState → ℕ → ℕ → Type 0
Filling s made x z t u = ReachesWithin (6 + 4 * made) x z t u (place made) (Filled s made)

pub none_yet : {s : GplState} {x z : MachineState} {t u : ℕ} → Dispatched s (view x) → Exits x z t u (pieces.begin_fill (view x)) → Filling s 0 x z t u
none_yet {s = s} {x = x} d begun = comes begun (begin_goes s (view x) d)

pub is_at_address : {s : GplState} (made : ℕ) {x z : MachineState} {t u : ℕ} → Filling s made x z t u → made < 768 → IsAt z FILL
is_at_address made {z = z} h some = subst (λ (p : ℕ). IsAt z p) (more_left made (λ all. omega arith)) h.is_at

size_of_video : (s : GplState) (x : MachineState) → IsAt x GOALL → Dispatched s (view x) → length s.vdp ≡ 16384
size_of_video s x is_at d = sym (ap length d.sees.vdp) ∙ (is_view x is_at.machine).vdp.memory.size

pub one_byte : {s : GplState} (made : ℕ) {x z w : MachineState} {t u v : ℕ} → IsAt x GOALL → Dispatched s (view x) → Filling s made x z t u → made < 768 →
    Exits z w u v (pieces.fill_byte (view z)) → Filling s (made + 1) x w t v
one_byte {s = s} made {x = x} {z = z} {w = w} {t = t} {v = v} is_at d h some stored =
    let n : suc made ≡ made + 1 = omega arith in
    let c = comes_then (6 + 4 * made) 4 h stored (fill_goes s made (view z) h.holds some (size_of_video s x is_at d))
    (ap is_turn_end (more_left made (λ all. omega arith))) in
    subst (λ (made : ℕ). Filling s made x w t v) n (comes_as (6 + 4 * suc made) (Filled s (suc made)) c (omega arith) (λ w f. f))

-- ---- the turn

abbrev next : GplState → GplState
next s = finished (with_immediate ALL (byte_of s) (unchanged (record s { pc = next_in_grom (after_code s) })))

all_seen : (s : GplState) (made : ℕ) (w : View) → made ≡ 768 → Filled s made w → ShowsState (next s) (next s).pc w
all_seen s made w all h = record {
  cells = h.cells;
  vdp = h.memory ∙ ap (λ (n : ℕ). filled_to n (byte_of s) s.vdp) all;
  registers = h.registers;
  held = h.held;
  grom = h.grom;
}

pub fills : {s : GplState} {x z : MachineState} {t u : ℕ} → IsAt x GOALL → Dispatched s (view x) → operation_in s ≡ Some (Byte ALL) →
    (made : ℕ) → made ≡ 768 → Filling s made x z t u → Turned s x z (from_dispatch t u) Stepped
fills {s = s} {x = x} {z = z} {t = t} {u = u} is_at d is made all h =
    let there : IsAt z GSTEP = subst (λ (p : ℕ). IsAt z p) (ap place all) h.is_at in
    let c = h in
    let seen = all_seen s made (view z) all c.holds in
    let step_is = step_byte s ALL is in
    let b = bound_made s (next s) (Some (Byte ALL)) is step_is in
    turned_by x z t u bound_to_dispatch Stepped s (Ok (next s)) step_is
    (refl, reaches bound_to_dispatch (bound s) h (ap is_turn_end is_at.pc) (ap is_turn_end (ap place all)) (omega arith), matches (next s) z there seen)
