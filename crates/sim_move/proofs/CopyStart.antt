-- The beginning of the copy, where its ways part.
use Rattle.std.proofs.Common.{ℕ, ◌%◌, ◌+◌, ◌<◌, ◌==◌, ◌∙◌, ◌≡◌, ◌≤◌, ap, arith, Bool, if◌then◌else◌, List, nat_lt, None, Option, refl, slice_index}
use Rattle.std.proofs.Common.{subst, sym}
use Rattle.std.proofs.lemmas.Bool.{eqb-false, eqb-true, le-ltb, ltb-true}
use Rattle.std.proofs.Math.Nat.{pos_of_ne-zero}
use Rattle.sim_rows.proofs.Common.{Changes, CHARACTER, copied, COPY, Cpu, difference_of, Exit, exit, From, FromGrom, FromMemory, grom_at, GromState}
use Rattle.sim_rows.proofs.Common.{IsFetched, IsView, marked_by, next_at, next_in_vdp, no_other, pick, place_in}
use Rattle.sim_rows.proofs.Common.{with_video_address, sum_of, To, ToMemory, ToRegisters, Vdp, VdpState, View, Word}
use Rattle.sim_move.specs.Copying.{Copying, HoldsSource, HoldsTarget}
use Rattle.sim_move.proofs.CopiedBytes.{all_made, source_is, target_is}
use Rattle.sim_move.proofs.Marks.{cells_mark, video_mark}
use Rattle.sim_move.proofs.Places.{each}
use Rattle.sim_move.proofs.VideoPort.{cut, reading_cut, reads_at, writes_at, writing_cut}
use Rattle.sim_move.proofs.Routines.{source_in, target_in}
use Rattle.sim_move.specs.Bytes.{AllCopied, AtByte, AtEnd, AtHead, charged, CopiesAt, CopyingAt, CopyingByRoutines, CopyingOnWay, from_on, GoesBack}
use Rattle.sim_move.specs.Bytes.{in_memory, MayGo, Points, seen, seen_on, to_memory, to_on}
use Rattle.sim_move.specs.CopyPieces.{both_set, by_routines, CellsToCells, CellsToVideo, first_cell, from_cells}
use Rattle.sim_move.specs.CopyPieces.{GromToCells, GromToVideo, head_of, is_marked, pointed_at}
use Rattle.sim_move.specs.CopyPieces.{set_source, start_copy, target_set, VideoToCells, VideoToVideo, CopyPath}
use Rattle.sim_rows.specs.sim_operands.Pieces.{one_if}
use Rattle.sim_rows.specs.native_interp.declared.addresses.TheConstants.{COPYCC, COPYCV, COPYE, COPYGC, COPYGV, COPYVC, COPYVV}
use Rattle.sim_rows.proofs.StepStart.{one_at_most}

-- ---- what is seen

rebuilt : (v : View) (cells memory registers : List ℕ) (held : Option ℕ) (grom : GromState) (r2 r7 r12 r13 address byte : ℕ) → v.cells ≡ cells →
    v.vdp.memory ≡ memory → v.vdp.registers ≡ registers → v.vdp.held ≡ held → v.grom ≡ grom → v.r.r2 ≡ r2 → v.r.r7 ≡ r7 → v.r.r12 ≡ r12 → v.r.r13 ≡ r13 →
    v.vdp.address ≡ address → v.vdp.fetched ≡ byte → v ≡ record v {
      r = record v.r { r2 = r2; r7 = r7; r12 = r12; r13 = r13 };
      cells = cells;
      vdp = record { memory = memory; registers = registers; address = address; fetched = byte; held = held };
      grom = grom;
    }
rebuilt v cells memory registers held grom r2 r7 r12 r13 address byte a b c d e f g h i j k =
    rw (← a, ← b, ← c, ← d, ← e, ← f, ← g, ← h, ← i, ← j, ← k) refl

-- ---- the leaves

-- how a copy begins
pub record Starts (v : View) (e : Exit) : Type 0 where
  pub few : e.count ≤ 7 + charged e.to
  pub place : CopiesAt e.to e.left
  pub held : e.left.vdp.held ≡ None
  pub grom : e.left.grom ≡ v.grom
  pub left : e.left.r.r12 ≡ v.r.r12
  pub copying : (c : Changes) → (from : From) → (to : To) → (bytes : ℕ) → Copying c from to bytes v → CopyingAt e.to c from to bytes e.left

head_charged : (way : CopyPath) → charged (head_of way) ≡ 11
head_charged = each (λ way. charged (head_of way) ≡ 11) refl refl refl refl refl refl

module _ (v : View) (i : IsView v) (held : v.vdp.held ≡ None) (fetched : IsFetched v.grom) (some : 0 < v.r.r12) where
  -- what a beginning keeps: all but the pointers, registers 4 and 13, and the video processor's address with its byte
  abbrev Same : View → Type 0
  Same w =
      w ≡ record v {
        r = record v.r { r2 = w.r.r2; r4 = w.r.r4; r7 = w.r.r7; r13 = w.r.r13 };
        vdp = record v.vdp { address = w.vdp.address; fetched = w.vdp.fetched };
      }

  is_seen : (w : View) → Same w → {c : Changes} {from : From} {to : To} {bytes : ℕ} → Copying c from to bytes v → (next : ℕ) →
      v.grom ≡ grom_at c.state.image next → {mark r2 r7 address byte : ℕ} → w.r.r13 ≡ mark → w.r.r2 ≡ r2 → w.r.r7 ≡ r7 → w.vdp.address ≡ address →
      w.vdp.fetched ≡ byte → w ≡ seen w c bytes mark r2 r7 address byte next
  is_seen w same {c = c} {bytes = bytes} k next grom {mark = mark} {r2 = r2} {r7 = r7} {address = address} {byte = byte} m f g a b =
      rebuilt w c.state.cells c.state.vdp c.state.registers None (grom_at c.state.image next) r2 r7 bytes mark address byte
      (ap (λ (u : View). u.cells) same ∙ k.cells) (ap (λ (u : View). u.vdp.memory) same ∙ k.vdp) (ap (λ (u : View). u.vdp.registers) same ∙ k.registers)
      (ap (λ (u : View). u.vdp.held) same ∙ held) (ap (λ (u : View). u.grom) same ∙ grom) f g (ap (λ (u : View). u.r.r12) same ∙ k.left) m a b

  -- a copy that has reached its way
  on_way : (way : CopyPath) (count : ℕ) (w : View) (source : ℕ) → count ≤ 18 → MayGo way w → Same w → source_in v ≡ from_on way source →
      target_in v ≡ to_on way v.r.r7 →
      ((c : Changes) → (bytes : ℕ) → Copying c (from_on way source) (to_on way v.r.r7) bytes v → GoesBack c (from_on way source) w
      × (w ≡ seen_on way w c bytes (marked_by (copied bytes (from_on way source) (to_on way v.r.r7) c).shows 0) source v.r.r7)) →
      Starts v (exit count (head_of way) w)
  on_way way count w source few may same from_is to_is is = record {
    few = let e = head_charged way in omega arith;
    place = AtHead way refl may;
    held = ap (λ (u : View). u.vdp.held) same ∙ held;
    grom = ap (λ (u : View). u.grom) same;
    left = ap (λ (u : View). u.r.r12) same;
    copying = λ c from to bytes k.
        let f : from_on way source ≡ from = sym from_is ∙ source_is c from v k.holds_source in
        let o : to_on way v.r.r7 ≡ to = sym to_is ∙ target_is to v k.holds_target in
        let P : From → To → Type 0 = λ from to. Copying c from to bytes v → CopyingAt (head_of way) c from to bytes w in
        (subst (λ (from : From). P from to) f (subst (λ (to : To). P (from_on way source) to) o
        (λ k. let s = is c bytes k in
        CopyingOnWay way refl (record { base = w; source = source; target = v.r.r7; from_is = refl; to_is = refl; back = s.0; is = s.1 })))) k;
  }

  -- where the video processor is set to an address
  abbrev kept : VdpState → VdpState
  kept d = record v.vdp { address = d.address; fetched = d.fetched }

  -- the source and the target by the registers
  abbrev from_by : Bool → ℕ → From
  from_by near space = if near then FromMemory (place_in space v.r.r2) else FromGrom (next_at v)

  source_cells : v.r.r5 ≡ 0 → source_in v ≡ in_memory Cpu v.r.r2
  source_cells e = ap (λ n. from_by (nat_lt n 2) n) e

  source_video : v.r.r5 ≡ 1 → source_in v ≡ in_memory Vdp v.r.r2
  source_video e = ap (λ n. from_by (nat_lt n 2) n) e

  source_grom : 1 < v.r.r5 → source_in v ≡ FromGrom (next_at v)
  source_grom l = ap (λ b. from_by b v.r.r5) (le-ltb v.r.r5 2 (omega arith))

  abbrev to_by : Bool → ℕ → To
  to_by near space = if near then ToMemory (place_in space v.r.r7) else ToRegisters v.r.r7

  target_cells : v.r.r8 ≡ 0 → target_in v ≡ to_memory Cpu v.r.r7
  target_cells e = ap (λ n. to_by (nat_lt n 2) n) e

  target_video : v.r.r8 ≡ 1 → target_in v ≡ to_memory Vdp v.r.r7
  target_video e = ap (λ n. to_by (nat_lt n 2) n) e

  -- a pointer into the cells
  pointer : (offset bytes : ℕ) → 0 < bytes → offset + bytes ≤ 0xC2 → Points (sum_of Word offset first_cell) bytes
  pointer offset bytes some le = record { from = omega arith; within = omega arith; some = some }

  pointer_is : (offset : ℕ) → offset < 0xC2 → sum_of Word offset first_cell ≡ first_cell + offset
  pointer_is offset less = omega arith

  module _ (target : v.r.r8 ≡ 0) (le : v.r.r7 + v.r.r12 ≤ 0xC2) where
    to_pointer : Points (pointed_at v).r.r7 v.r.r12
    to_pointer = pointer v.r.r7 v.r.r12 some le

    to_pointer_is : (pointed_at v).r.r7 ≡ first_cell + v.r.r7
    to_pointer_is = pointer_is v.r.r7 (omega arith)

    marks : (c : Changes) (from : From) (bytes : ℕ) → Copying c from (to_memory Cpu v.r.r7) bytes v →
        (pointed_at v).r.r13 ≡ marked_by (copied bytes from (to_memory Cpu v.r.r7) c).shows 0
    marks c from bytes k =
        let l = k.left in
        ap (λ m. if is_marked v then 0xFFFF else m) k.mark
        ∙ ap (λ n. if nat_lt (difference_of Word CHARACTER v.r.r7) n then 0xFFFF else marked_by c.shows 0) k.left
        ∙ cells_mark bytes v.r.r7 from c (omega arith)

    abbrev marking : ℕ
    marking = one_if (is_marked v)

    few : (count : ℕ) → count ≤ 17 → count + marking ≤ 18
    few count l = let m = one_at_most (is_marked v) in omega arith

    cells_to_cells : v.r.r5 ≡ 0 → v.r.r2 + v.r.r12 ≤ 0xC2 → Starts v (exit (14 + marking) COPYCC (from_cells (pointed_at v)))
    cells_to_cells e fits =
        let w : View = from_cells (pointed_at v) in
        on_way CellsToCells (14 + marking) w v.r.r2 (few 14 (omega arith)) (pointer v.r.r2 v.r.r12 some fits, to_pointer) refl (source_cells e)
        (target_cells target)
        (λ c bytes k. (
          let z = e in omega arith,
          is_seen w refl k c.state.pc k.holds_source.grom (marks c (in_memory Cpu v.r.r2) bytes k)
              (pointer_is v.r.r2 (omega arith)) to_pointer_is refl refl,
        ))

    video_to_cells : v.r.r5 ≡ 1 → Starts v (exit (12 + marking + 5) COPYVC (set_source (pointed_at v)).left)
    video_to_cells e =
        let w : View = (set_source (pointed_at v)).left in
        let at : ℕ = v.r.r2 % 16384 in
        let set : w.vdp ≡ record v.vdp { address = next_in_vdp at; fetched = slice_index v.vdp.memory at } =
        ap (λ n. with_video_address n v.vdp) (cut v.r.r2 (i.r 2)) ∙ reads_at v.vdp at held (omega arith) in
        let same = ap (λ (d : VdpState). record w { vdp = d }) (set ∙ ap kept (sym set)) in
        on_way VideoToCells (12 + marking + 5) w v.r.r2 (let m = one_at_most (is_marked v) in omega arith) to_pointer same (source_video e)
        (target_cells target)
        (λ c bytes k. (
          let z = e in omega arith,
          is_seen w same k c.state.pc k.holds_source.grom (marks c (in_memory Vdp v.r.r2) bytes k) refl to_pointer_is
              (ap (λ (d : VdpState). d.address) set) (ap (λ (d : VdpState). d.fetched) set ∙ ap (λ (l : List ℕ). slice_index l at) k.vdp),
        ))

    grom_to_cells : 1 < v.r.r5 → Starts v (exit (13 + marking) COPYGC (pointed_at v))
    grom_to_cells l =
        let from : From = FromGrom (next_at v) in
        on_way GromToCells (13 + marking) (pointed_at v) (next_at v) (few 13 (omega arith)) to_pointer refl (source_grom l) (target_cells target)
        (λ c bytes k. (
          (k.holds_source.space, k.holds_source.back),
          is_seen (pointed_at v) refl k (next_at v) k.holds_source.grom (marks c from bytes k)
              refl to_pointer_is refl refl,
        ))

  module _ (target : v.r.r8 ≡ 1) where
    set : (target_set v).vdp ≡ record v.vdp { address = v.r.r7 % 16384 }
    set = ap (λ n. with_video_address (sum_of Word n 0x4000) v.vdp) (cut v.r.r7 (i.r 7)) ∙ writes_at v.vdp (v.r.r7 % 16384) held (omega arith)

    address_set : (target_set v).vdp.address ≡ v.r.r7 % 16384
    address_set = ap (λ (d : VdpState). d.address) set

    cells_to_video : v.r.r5 ≡ 0 → v.r.r2 + v.r.r12 ≤ 0xC2 → Starts v (exit 15 COPYCV (from_cells (target_set v)))
    cells_to_video e fits =
        let w : View = from_cells (target_set v) in
        let same = ap (λ (d : VdpState). record w { vdp = d }) (set ∙ ap kept (sym set)) in
        on_way CellsToVideo 15 w v.r.r2 (omega arith) (pointer v.r.r2 v.r.r12 some fits) same (source_cells e) (target_video target)
        (λ c bytes k. (
          let z = e in omega arith,
          is_seen w same k c.state.pc k.holds_source.grom (k.mark ∙ video_mark bytes v.r.r7 (in_memory Cpu v.r.r2) c)
              (pointer_is v.r.r2 (omega arith)) refl address_set refl,
        ))

    grom_to_video : 1 < v.r.r5 → Starts v (exit 14 COPYGV (target_set v))
    grom_to_video l =
        let w : View = target_set v in
        let same = ap (λ (d : VdpState). record w { vdp = d }) (set ∙ ap kept (sym set)) in
        on_way GromToVideo 14 w (next_at v) (omega arith) some same (source_grom l) (target_video target)
        (λ c bytes k. (
          (k.holds_source.space, k.holds_source.back),
          is_seen w same k (next_at v) k.holds_source.grom
              (k.mark ∙ video_mark bytes v.r.r7 (FromGrom (next_at v)) c) refl refl address_set refl,
        ))

    video_to_video : v.r.r5 ≡ 1 → Starts v (exit 9 COPYVV (both_set v))
    video_to_video e =
        let w : View = both_set v in
        on_way VideoToVideo 9 w v.r.r2 (omega arith) some refl (source_video e) (target_video target)
        (λ c bytes k. (
          let z = e in omega arith,
          is_seen w refl k c.state.pc k.holds_source.grom (k.mark ∙ video_mark bytes v.r.r7 (in_memory Vdp v.r.r2) c)
              (reading_cut v.r.r2) (writing_cut v.r.r7) refl refl,
        ))

  -- LOAD and STORE copy
  from_again : (c : Changes) (from : From) → HoldsSource c from v → HoldsSource c from (by_routines v)
  from_again c (FromMemory place) f = record { loads_from = record { address = f.loads_from.address; space = f.loads_from.space }; grom = f.grom }
  from_again c (FromGrom address) f = record { space = f.space; grom = f.grom; back = f.back }

  to_again : (to : To) → HoldsTarget to v → HoldsTarget to (by_routines v)
  to_again (ToMemory place) f = record { address = f.address; space = f.space }
  to_again (ToRegisters number) f = record { number_is = f.number_is; space = f.space }

  starts_by_routines : 1 < v.r.r8 → (v.r.r5 ≡ 0 → v.r.r2 + v.r.r12 ≤ 0xC2) → v.r.r7 + v.r.r12 ≤ 8 →
      Starts v (exit 6 COPY (by_routines v))
  starts_by_routines beyond source registers = record {
    few = omega arith;
    place = AtByte refl (record { bytes_are = refl; some = some; source = source; beyond = beyond; registers = registers; fetched = fetched });
    held = held;
    grom = refl;
    left = refl;
    copying = λ c from to bytes k. CopyingByRoutines refl (record {
      cells = k.cells;
      vdp = k.vdp;
      registers = k.registers;
      held = k.held;
      mark = k.mark;
      holds_source = from_again c from k.holds_source;
      holds_target = to_again to k.holds_target;
      left = k.left;
    });
  }

-- ---- the tree

above_one : (n : ℕ) → (n ≡ 0 → ⊥) → (n ≡ 1 → ⊥) → 1 < n
above_one n a b = omega arith

none_to_copy : (v : View) → v.vdp.held ≡ None → v.r.r12 ≡ 0 → Starts v (exit 2 COPYE v)
none_to_copy v held none = record {
  few = omega arith;
  place = AtEnd refl none;
  held = held;
  grom = refl;
  left = refl;
  copying = λ c from to bytes k.
      let z : bytes ≡ 0 = sym k.left ∙ none in
      AllCopied refl z (all_made c from to v (subst (λ (n : ℕ). Copying c from to n v) z k));
}

started : (v : View) (e : Exit) → start_copy v ≡ e → Starts v e → Starts v (start_copy v)
started v e is s = subst (Starts v) (sym is) s

pub starts : (v : View) → IsView v → v.vdp.held ≡ None → IsFetched v.grom → (v.r.r5 ≡ 0 → v.r.r2 + v.r.r12 ≤ 0xC2) →
    (v.r.r8 ≡ 0 → v.r.r7 + v.r.r12 ≤ 0xC2) → (1 < v.r.r8 → v.r.r7 + v.r.r12 ≤ 8) → Starts v (start_copy v)
starts v i held fetched source target registers =
    pick (v.r.r12 == 0)
    (λ c. started v (exit 2 COPYE v) (rw (c, start_copy) refl) (none_to_copy v held (eqb-true v.r.r12 0 c)))
    (λ c. let some : 0 < v.r.r12 = pos_of_ne-zero (eqb-false v.r.r12 0 c) in
    pick (v.r.r8 == 1)
    (λ d. let video : v.r.r8 ≡ 1 = eqb-true v.r.r8 1 d in
    pick (v.r.r5 == 1)
    (λ e. started v (exit 9 COPYVV (both_set v)) (rw (c, d, e, start_copy) refl)
    (video_to_video v i held fetched some video (eqb-true v.r.r5 1 e)))
    (λ e. pick (v.r.r5 == 0)
    (λ f. let z : v.r.r5 ≡ 0 = eqb-true v.r.r5 0 f in
    started v (exit 15 COPYCV (from_cells (target_set v))) (rw (c, d, e, f, start_copy) refl) (cells_to_video v i held fetched some video z (source z)))
    (λ f. started v (exit 14 COPYGV (target_set v)) (rw (c, d, e, f, start_copy) refl)
    (grom_to_video v i held fetched some video (above_one v.r.r5 (eqb-false v.r.r5 0 f) (eqb-false v.r.r5 1 e))))))
    (λ d. pick (nat_lt 1 v.r.r8)
    (λ e. let above : 1 < v.r.r8 = ltb-true 1 v.r.r8 e in
    started v (exit 6 COPY (by_routines v)) (rw (c, d, e, start_copy) refl)
    (starts_by_routines v i held fetched some above source (registers above)))
    (λ e. let cells : v.r.r8 ≡ 0 = no_other v.r.r8 d e in
    let marking : ℕ = one_if (is_marked v) in
    pick (v.r.r5 == 1)
    (λ f. started v (exit (12 + marking + 5) COPYVC (set_source (pointed_at v)).left) (rw (c, d, e, f, start_copy) refl)
    (video_to_cells v i held fetched some cells (target cells) (eqb-true v.r.r5 1 f)))
    (λ f. pick (nat_lt 1 v.r.r5)
    (λ g. started v (exit (13 + marking) COPYGC (pointed_at v)) (rw (c, d, e, f, g, start_copy) refl)
    (grom_to_cells v i held fetched some cells (target cells) (ltb-true 1 v.r.r5 g)))
    (λ g. let z : v.r.r5 ≡ 0 = no_other v.r.r5 f g in
    started v (exit (14 + marking) COPYCC (from_cells (pointed_at v))) (rw (c, d, e, f, g, start_copy) refl)
    (cells_to_cells v i held fetched some cells (target cells) z (source z)))))))
