-- STORE and LOAD with what follows them, and the end of a row, on views alone.
use Rattle.std.proofs.Common.{ℕ, ◌%◌, ◌*◌, ◌+◌, ◌<◌, ◌==◌, ◌∙◌, ◌≡◌, ap, arith, Bool, false, List, None, refl}
use Rattle.std.proofs.Common.{slice_index, slice_set, subst, sym, true}
use Rattle.std.proofs.lemmas.Bool.{eqb-false, eqb-true}
use Rattle.sim_view.proofs.Common.{Goes, goes_in, high-join, pick}
use Rattle.sim_view.proofs.Routines.{AreBytes, Ends, first, regroup}
use Rattle.sim_view.specs.Routines.{◌>>◌}
use Rattle.sim_operands.proofs.Routines.{load_goes, store_goes}
use Rattle.sim_operands.specs.Routines.{CanLoad, CanStore, load, store, store_pieces}
use Rattle.sim_rows.specs.Prelude.{Changes, Exit, exit, finished, GplState, grom_at, GSTEP, high}
use Rattle.sim_rows.specs.Prelude.{in_register, join, low, marked_by, Place, place_in}
use Rattle.sim_rows.specs.Prelude.{SeesFinished, shifted, ShowsChanges, SLA, SRL, state_of}
use Rattle.sim_rows.specs.Prelude.{STORE, Stored, Storing, sum_of, unchanged, value_at, View, Width}
use Rattle.sim_rows.specs.Prelude.{width_in, with_value, Word}
use Rattle.sim_rows.specs.Routines.{end_row, finish_row}
use Rattle.sim_rows.proofs.FirstOperand.{space_small}
use Rattle.sim_rows.proofs.RowViews.{seen_with}
use Rattle.sim_rows.proofs.StoredResults.{changes_are, storing_again, value_keeps, value_splits}
use Rattle.sim_rows.specs.Pieces as pieces

-- ---- STORE and LOAD

-- A number is stored after some changes. What follows is to be known of the view with the number's changes, whatever
-- is in register 4 and at the address of the video processor.
pub store_first : {c : Changes} {width : Width} {place : Place} {number : ℕ} {v : View} (f : View → Exit) {b to : ℕ}
    {R : View → Type 0} → Storing c width place number v → v.r.r7 < 65536 → CanStore v →
    ((r4 address byte : ℕ) → Ends (f (seen_with (with_value width place number c) v r4 address byte)) b to R) →
    Ends (store v >> f) (15 + b) to R
store_first {c = c} {width = width} {place = place} {number = number} {v = v} f {b = b} {to = to} {R = R} h fits can
    next bytes =
    let g = store_goes v h.changed.held (space_small place.space v.r.r8 h.to_place.space) fits can in
    let both : Changes = with_value width place number c in
    let alone : Changes = with_value width place number (unchanged c.state) in
    let s : Stored v alone (store v).left =
    subst (λ (k : Changes). Stored v k (store v).left) (changes_are c width place number v h) g.holds in
    let splits = value_splits width place number c in
    let keeps = value_keeps width place number c in
    let mark = ap (λ (m : ℕ). marked_by alone.shows m) h.changed.mark ∙ sym splits.1 in
    let grom = h.changed.grom ∙ ap (λ (l : List ℕ). grom_at l c.state.pc) (sym keeps.0)
    ∙ ap (λ (n : ℕ). grom_at both.state.image n) (sym keeps.1) in
    let is : (store v).left ≡ seen_with both v s.r4 s.address s.byte = s.is ∙ (λ i. record v {
      r = record v.r { r4 = s.r4; r13 = mark i };
      cells = (sym splits.0 i).cells;
      vdp = record {
        memory = (sym splits.0 i).vdp;
        registers = (sym splits.0 i).registers;
        address = s.address;
        fetched = s.byte;
        held = h.changed.held i;
      };
      grom = grom i;
    }) in
    let k : Goes (f (store v).left) b to R =
    subst (λ (w : View). Ends (f w) b to R) (sym is) (next s.r4 s.address s.byte) bytes in
    let w = g.within in
    let m = k.within in
    record { within = omega arith; to_is = k.to_is; holds = k.holds }

-- STORE after a stretch that asks for it, and two more after it
pub request_store_first : {c : Changes} {width : Width} {place : Place} {number : ℕ} (e : Exit)
    (f g : View → Exit) {b to : ℕ}
    {R : View → Type 0} → Storing c width place number e.left → e.left.r.r7 < 65536 → CanStore e.left →
    ((r4 address byte : ℕ) → Ends (f
    (seen_with (with_value width place number c) e.left r4 address byte) >> g) b to R) →
    Ends (e >> store >> f >> g) (e.count + (15 + b)) to R
request_store_first e f g h fits can next =
    regroup (e >> store) f g
    (regroup e store (λ w. f w >> g)
    (first e (λ w. store w >> (λ u. f u >> g)) (store_first (λ w. f w >> g) h fits can next)))

-- what LOAD leaves
abbrev pub loaded : View → ℕ → ℕ → ℕ → View
loaded v r4 address byte =
    let width = width_in v.r.r3 in
    record v {
      r = record v.r { r4 = r4; r6 = in_register width (value_at (state_of v) width (place_in v.r.r5 v.r.r2)) };
      vdp = record v.vdp { address = address; fetched = byte };
    }

-- A value is loaded. What follows is to be known of the view with it.
pub load_first : (v : View) (f : View → Exit) {b to : ℕ} {R : View → Type 0} → v.vdp.held ≡ None → v.r.r5 < 2 →
    v.r.r2 < 65536 → CanLoad v → ((r4 address byte : ℕ) → Ends (f (loaded v r4 address byte)) b to R) →
    Ends (load v >> f) (15 + b) to R
load_first v f {b = b} {to = to} {R = R} held small fits can next bytes =
    let g = load_goes v held small fits can in
    let s = g.holds in
    let k : Goes (f (load v).left) b to R =
    subst (λ (w : View). Ends (f w) b to R) (sym s.is) (next s.r4 s.address s.byte) bytes in
    let w = g.within in
    let m = k.within in
    record { within = omega arith; to_is = k.to_is; holds = k.holds }

-- ---- SHOW

mark_none : (shows : Bool) (mark : ℕ) → mark ≡ marked_by shows 0 → mark ≡ 0 → shows ≡ false
mark_none false mark e f = refl
mark_none true mark e f = absurd (omega arith)

mark_one : (shows : Bool) (mark : ℕ) → mark ≡ marked_by shows 0 → (mark ≡ 0 → ⊥) → shows ≡ true
mark_one true mark e f = refl
mark_one false mark e f = absurd (f e)

-- STORE is asked for the character
abbrev pub drawing : View → View
drawing v = record v {
  r = record v.r {
    r3 = 1;
    r4 = shifted SRL (join (slice_index v.cells 0x7F) (low v.r.r4)) 8;
    r7 = sum_of Word (shifted SLA (shifted SRL (join (slice_index v.cells 0x7E) (low v.r.r7)) 8) 5)
        (shifted SRL (join (slice_index v.cells 0x7F) (low v.r.r4)) 8);
    r8 = 1;
    r9 = join (slice_index v.cells 0x7D) (low v.r.r9);
    r11 = GSTEP;
  };
}

screen_at : (row column r7 r4 : ℕ) → row < 256 → column < 256 →
    sum_of Word (shifted SLA (shifted SRL (join row (low r7)) 8) 5) (shifted SRL (join column (low r4)) 8)
    ≡ 32 * row + column
screen_at row column r7 r4 h k = omega arith

in_video : (address : ℕ) → address < 16384 → address % 16384 ≡ address
in_video address h = omega arith

-- the character goes to the screen
draws : (c : Changes) (v : View) → ShowsChanges c v → c.shows ≡ true →
    Ends (exit 13 STORE (drawing v) >> store) 28 GSTEP (SeesFinished c)
unfolding store_pieces
draws c v h shows bytes =
    let all : AreBytes v = bytes in
    let final : GplState = finished (record c { shows = true }) in
    let at : ℕ = 32 * slice_index c.state.cells 0x7E + slice_index c.state.cells 0x7F in
    let cell : (k : ℕ) → slice_index v.cells k ≡ slice_index c.state.cells k =
    λ k. ap (λ (l : List ℕ). slice_index l k) h.cells in
    let p : slice_index c.state.cells 0x7E < 256 = subst (λ n. n < 256) (cell 0x7E) (all 0x7E) in
    let q : slice_index c.state.cells 0x7F < 256 = subst (λ n. n < 256) (cell 0x7F) (all 0x7F) in
    let small : at < 16384 = omega arith in
    let address : (drawing v).r.r7 ≡ at =
    screen_at (slice_index v.cells 0x7E) (slice_index v.cells 0x7F) v.r.r7 v.r.r4 (all 0x7E) (all 0x7F)
    ∙ ap (λ n. 32 * n + slice_index v.cells 0x7F) (cell 0x7E)
    ∙ ap (λ n. 32 * slice_index c.state.cells 0x7E + n) (cell 0x7F) in
    let byte : high (drawing v).r.r9 ≡ slice_index c.state.cells 0x7D =
    high-join (slice_index v.cells 0x7D) v.r.r9 ∙ cell 0x7D in
    let memory : slice_set v.vdp.memory ((drawing v).r.r7 % 16384) (high (drawing v).r.r9) ≡ final.vdp =
    ap (λ n. slice_set v.vdp.memory (n % 16384) (high (drawing v).r.r9)) address
    ∙ ap (λ n. slice_set v.vdp.memory n (high (drawing v).r.r9)) (in_video at small)
    ∙ ap (λ n. slice_set v.vdp.memory at n) byte
    ∙ ap (λ (l : List ℕ). slice_set l at (slice_index c.state.cells 0x7D)) h.vdp in
    let g = store_goes (drawing v) h.held (omega arith) (omega arith) (λ z. absurd (omega arith)) in
    let b = g.holds in
    let w = g.within in
    subst (λ (k : Bool). Goes (exit 13 STORE (drawing v) >> store) 28 GSTEP (SeesFinished (record c { shows = k })))
    (sym shows)
    (record {
      within = omega arith;
      to_is = g.to_is;
      holds = record {
        cells = ap (λ (u : View). u.cells) b.is ∙ h.cells;
        vdp = ap (λ (u : View). u.vdp.memory) b.is ∙ memory;
        registers = ap (λ (u : View). u.vdp.registers) b.is ∙ h.registers;
        held = ap (λ (u : View). u.vdp.held) b.is ∙ h.held;
        grom = ap (λ (u : View). u.grom) b.is ∙ h.grom;
      };
    })

pub row_ends : (c : Changes) (v : View) → ShowsChanges c v → Ends (end_row v) 28 GSTEP (SeesFinished c)
unfolding end_row
row_ends c v h bytes =
    pick (v.r.r13 == 0)
    (λ a. let none = mark_none c.shows v.r.r13 h.mark (eqb-true v.r.r13 0 a) in
    rw (a, none) (goes_in (omega arith)
    (record { cells = h.cells; vdp = h.vdp; registers = h.registers; held = h.held; grom = h.grom })))
    (λ a. let way : end_row v ≡ (exit 13 STORE (drawing v) >> store) = rw a refl in
    subst (λ (e : Exit). Ends e 28 GSTEP (SeesFinished c)) (sym way)
    (draws c v h (mark_one c.shows v.r.r13 h.mark (eqb-false v.r.r13 0 a))) bytes)

-- ---- STO

pub row_finishes : {c : Changes} {width : Width} {place : Place} {number : ℕ} {v : View} →
    Storing c width place number v → v.r.r7 < 65536 → CanStore v →
    Ends (finish_row v) 45 GSTEP (SeesFinished (with_value width place number c))
unfolding finish_row
row_finishes {c = c} {width = width} {place = place} {number = number} {v = v} h fits can =
    let asked = storing_again c width place number v
    (pieces.store_result v).left h refl refl refl refl refl refl refl refl in
    regroup (pieces.store_result v) store end_row
    (first (pieces.store_result v) (λ w. store w >> end_row)
    (store_first end_row asked fits can (λ r4 address byte. row_ends (with_value width place number c) _
    (record { cells = refl; vdp = refl; registers = refl; held = refl; grom = refl; mark = refl }))))
