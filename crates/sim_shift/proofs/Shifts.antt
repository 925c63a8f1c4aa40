-- A shift from its row to STO.
use Rattle.std.proofs.Common.{ℕ, ◌+◌, ◌<◌, ◌==◌, ◌∙◌, ◌≡◌, ◌≤◌, ap, arith, eqb, false, if◌then◌else◌, List, refl, Some, subst, sym, true}
use Rattle.std.proofs.lemmas.Bool.{eqb-false, eqb-true}
use Rattle.sim_rows.proofs.Common.{AtRow, Byte, bytes_by, ShowsChanges, changed_again, Changes, count_of, destination_bytes, even, Exit, exit, gone_on, GplState}
use Rattle.sim_rows.proofs.Common.{GromState, in_register, is_grom_idle, is_vdp_idle, IsView, IsVisible, Memory, modulus, of_register, ones_set, operation_in}
use Rattle.sim_rows.proofs.Common.{pick, Place, PortsAreIdle, reads_destination, repeated, repeated_sign, return_of, row_changed, row_width, shifted}
use Rattle.sim_rows.proofs.Common.{shifted_left, shifted_right, ShiftOp, size_of, SLA, Source, SRA, SRC, SRL, STO, StoresTo, Storing, swapped, Two, two}
use Rattle.sim_rows.proofs.Common.{unchanged, value_at, VdpState, View, view_of, Width, width_in, with_value, Word}
use Rattle.sim_shift.specs.Pieces.{counted, low_four}
use Rattle.sim_shift.specs.Family.{name_of, shift_entry}
use Rattle.sim_shift.proofs.Numbers.{arithmetic, count_of_byte, count_of_word, kept_left, kept_right, left, right, turned}
use Rattle.sim_shift.specs.Pieces as pieces

-- What stays on the way to the result.
pub record Kept : Type 0 where
  pub cells : List ℕ
  pub vdp : VdpState
  pub grom : GromState
  pub bytes : ℕ
  pub address : ℕ
  pub space : ℕ
  pub mark : ℕ

abbrev pub kept_of : View → Kept
kept_of v = record { cells = v.cells; vdp = v.vdp; grom = v.grom; bytes = v.r.r3; address = v.r.r7; space = v.r.r8; mark = v.r.r13 }

abbrev pub Keeps : View → View → Type 0
Keeps v w = kept_of w ≡ kept_of v

pub idle_kept : {m n : Memory} → Keeps (view_of m) (view_of n) → PortsAreIdle m → PortsAreIdle n
unfolding view_of
idle_kept k idle = record { vdp = ap (λ (a : Kept). is_vdp_idle a.vdp) k ∙ idle.vdp; grom = ap (λ (a : Kept). is_grom_idle a.grom) k ∙ idle.grom }

pub near_kept : (v w : View) → Keeps v w → v.r.r8 < 2 → w.r.r8 < 2
near_kept v w k h = subst (λ (a : Kept). a.space < 2) (sym k) h

pub visible_kept : (v w : View) → Keeps v w → IsVisible v.r.r8 v.r.r7 v.r.r3 → IsVisible w.r.r8 w.r.r7 w.r.r3
visible_kept v w k h = subst (λ (a : Kept). IsVisible a.space a.address a.bytes) (sym k) h

changed_kept : (c : Changes) (v w : View) → ShowsChanges c v → Keeps v w → ShowsChanges c w
changed_kept c v w h k =
    changed_again c v w h (ap (λ (a : Kept). a.cells) k) (ap (λ (a : Kept). a.vdp) k) (ap (λ (a : Kept). a.grom) k) (ap (λ (a : Kept). a.mark) k)

-- ---- the pieces

-- the word whose low four bits are the count
abbrev pub counted_word : View → ℕ
counted_word v = if v.r.r3 == 1 then swapped v.r.r6 else v.r.r6

pub record Counting (v : View) : Type 0 where
  pub most : ℕ
  pub few : most ≤ 7
  pub is : pieces.take_count v ≡ counted most (counted_word v) v

pub counting : (v : View) → Counting v
counting v =
    pick (v.r.r3 == 1)
    (λ c. record { most = 7; few = omega arith; is = rw (c, pieces.take_count, counted_word) refl })
    (λ c. record { most = 6; few = omega arith; is = rw (c, pieces.take_count, counted_word) refl })

-- with a count in register 0
abbrev pub with_count : View → ℕ → View
with_count v count = record v { r = record v.r { r0 = count } }

with_count_by : (most word : ℕ) (v : View) → (counted most word v).left ≡ with_count v (low_four word)
with_count_by most word v = pick (low_four word == 0) (λ c. rw (c, counted) refl) (λ c. rw (c, counted) refl)

pub count_taken : (v : View) → (pieces.take_count v).left ≡ with_count v (low_four (counted_word v))
count_taken v = let c = counting v in ap (λ (e : Exit). e.left) c.is ∙ with_count_by c.most (counted_word v) v

counts_by : (most word : ℕ) (v : View) → (counted most word v).count ≤ most + 1
counts_by most word v = pick (low_four word == 0) (λ c. rw (c, counted) (omega arith)) (λ c. rw (c, counted) (omega arith))

pub counts_few : (v : View) → (pieces.take_count v).count ≤ 8
counts_few v =
    let c = counting v in
    let few = c.few in
    let by = counts_by c.most (counted_word v) v in
    let is = ap (λ (e : Exit). e.count) c.is in
    omega arith

none_by : (most word : ℕ) (v : View) → (counted most word v).to ≡ STO → eqb (return_of v) STO ≡ false → low_four word ≡ 0
none_by most word v to other =
    pick (low_four word == 0)
    (λ c. eqb-true (low_four word) 0 c)
    (λ c. let is : return_of v ≡ STO = rw (c, counted) at to in absurd (eqb-false (return_of v) STO other is))

some_by : (most word : ℕ) (v : View) → eqb (counted most word v).to STO ≡ false → ((counted most word v).to ≡ return_of v) × (low_four word ≡ 0 → ⊥)
some_by most word v other =
    pick (low_four word == 0)
    (λ c. absurd (cc (rw (c, counted) at other)))
    (λ c. (rw (c, counted) refl, λ e. eqb-false (low_four word) 0 c e))

pub none : (v : View) → (pieces.take_count v).to ≡ STO → eqb (return_of v) STO ≡ false → low_four (counted_word v) ≡ 0
none v to other = let c = counting v in none_by c.most (counted_word v) v (sym (ap (λ (e : Exit). e.to) c.is) ∙ to) other

pub some : (v : View) → eqb (pieces.take_count v).to STO ≡ false → ((pieces.take_count v).to ≡ return_of v) × (low_four (counted_word v) ≡ 0 → ⊥)
some v other =
    let c = counting v in
    let to = ap (λ (e : Exit). e.to) c.is in
    let s = some_by c.most (counted_word v) v (sym (ap (λ (n : ℕ). eqb n STO) to) ∙ other) in
    (to ∙ s.0, s.1)

pub turn_byte : (v : View) → (v.r.r3 == 1) ≡ true →
    pieces.turn_right v ≡ exit 7 STO (record v { r = record v.r { r4 = swapped v.r.r9; r9 = shifted SRC (ones_set v.r.r9 (swapped v.r.r9)) v.r.r0 } })
turn_byte v c = rw (c, pieces.turn_right) refl

pub turn_word : (v : View) → (v.r.r3 == 1) ≡ false → pieces.turn_right v ≡ exit 4 STO (record v { r = record v.r { r9 = shifted SRC v.r.r9 v.r.r0 } })
turn_word v c = rw (c, pieces.turn_right) refl

-- the exit of a shift's last piece
pub record Shifted (v : View) (e : Exit) : Type 0 where
  pub few : e.count ≤ 7
  pub to_is : e.to ≡ STO
  pub keeps : Keeps v e.left

shifted_by : {v : View} {d e : Exit} → d ≡ e → Shifted v e → Shifted v d
shifted_by {v = v} is h = subst (λ (e : Exit). Shifted v e) (sym is) h

pub shifts : (op : ShiftOp) (v : View) → Shifted v (pieces.shifts op v)
shifts SRA v = record { few = omega arith; to_is = refl; keeps = refl }
shifts SRL v = record { few = omega arith; to_is = refl; keeps = refl }
shifts SLA v = record { few = omega arith; to_is = refl; keeps = refl }
shifts SRC v =
    pick (v.r.r3 == 1)
    (λ c. shifted_by (turn_byte v c) (record { few = omega arith; to_is = refl; keeps = refl }))
    (λ c. shifted_by (turn_word v c) (record { few = omega arith; to_is = refl; keeps = refl }))

-- ---- the numbers

-- what a shift makes of a number
abbrev pub number_by : ShiftOp → Width → ℕ → ℕ → ℕ
number_by SRA width x count = shifted_right width (repeated_sign width x) x count
number_by SRL width x count = shifted_right width 0 x count
number_by SLA width x count = shifted_left width x count
number_by SRC width x count = shifted_right width (repeated width x) x count

pub two_is : (op : ShiftOp) (width : Width) (at : Place) (x : ℕ) (source : Source) (c : Changes) →
    two (name_of op) width at x source c ≡ with_value width at (number_by op width x (count_of source.number)) c
two_is SRA width at x source c = refl
two_is SRL width at x source c = refl
two_is SLA width at x source c = refl
two_is SRC width at x source c = refl

pub kept_by : (op : ShiftOp) (width : Width) (x : ℕ) → x < modulus width → number_by op width x 0 ≡ x
kept_by SRA width x h = kept_right width (repeated_sign width x) x h
kept_by SRL width x h = kept_right width 0 x h
kept_by SLA width x h = kept_left width x h
kept_by SRC width x h = kept_right width (repeated width x) x h

pub size_is : (op : ShiftOp) (width : Width) → bytes_by (Some (Two (name_of op))) width ≡ size_of width
size_is SRA width = refl
size_is SRL width = refl
size_is SLA width = refl
size_is SRC width = refl

pub width_back : (width : Width) → width_in (size_of width) ≡ width
width_back Byte = refl
width_back Word = refl

pub fits_in : (width : Width) (word x : ℕ) → word ≡ in_register width x → word < 65536 → x < modulus width
fits_in Byte word x e h = omega arith
fits_in Word word x e h = omega arith

pub back : (width : Width) (x : ℕ) → of_register width (in_register width x) ≡ x
back Byte x = omega arith
back Word x = refl

pub count_is : (width : Width) (bytes word number : ℕ) → bytes ≡ size_of width → word ≡ in_register width number → word < 65536 →
    low_four (if bytes == 1 then swapped word else word) ≡ count_of number
count_is Byte bytes word number e f h =
    ap (λ (n : ℕ). low_four (if n == 1 then swapped word else word)) e ∙ ap (λ (n : ℕ). low_four (swapped n)) f ∙ count_of_byte number (omega arith)
count_is Word bytes word number e f h =
    ap (λ (n : ℕ). low_four (if n == 1 then swapped word else word)) e ∙ ap low_four f ∙ count_of_word number (omega arith)

-- the value of the last piece, whose register held a number
number_in : (op : ShiftOp) (width : Width) (x count : ℕ) (v : View) → x < modulus width → count < 16 →
    of_register width (pieces.shifts op (record v { r = record v.r { r0 = count; r3 = size_of width; r9 = in_register width x } })).left.r.r9 ≡ number_by op
    width x count
number_in SRA width x count v h k = arithmetic width x count h k
number_in SRL width x count v h k = right width x count h k
number_in SLA width x count v h k = left width x count h k
number_in SRC Byte x count v h k = turned Byte x count h k
number_in SRC Word x count v h k = turned Word x count h k

pub number_is : (op : ShiftOp) (width : Width) (x count : ℕ) (v : View) → v.r.r3 ≡ size_of width → v.r.r9 ≡ in_register width x → v.r.r0 ≡ count →
    x < modulus width → count < 16 →
    of_register width (pieces.shifts op v).left.r.r9 ≡ number_by op width x count
number_is op width x count v e f g h k =
    ap (λ (n : ℕ). of_register width (pieces.shifts op (record v { r = record v.r { r3 = n } })).left.r.r9) e
    ∙ ap (λ (n : ℕ). of_register width (pieces.shifts op (record v { r = record v.r { r3 = size_of width; r9 = n } })).left.r.r9) f
    ∙ ap (λ (n : ℕ). of_register width (pieces.shifts op (record v { r = record v.r { r0 = n; r3 = size_of width; r9 = in_register width x } })).left.r.r9) g
    ∙ number_in op width x count v h k

reads : (op : ShiftOp) → reads_destination (Some (Two (name_of op))) ≡ true
reads SRA = refl
reads SRL = refl
reads SLA = refl
reads SRC = refl

-- ---- from the row to STO

pub entry_even : (op : ShiftOp) → (even (shift_entry op) ≡ shift_entry op) × (eqb (even (shift_entry op)) STO ≡ false)
entry_even SRA = (refl, refl)
entry_even SRL = (refl, refl)
entry_even SLA = (refl, refl)
entry_even SRC = (refl, refl)

-- The count is there, and nothing else has happened.
pub record HasCount (s : GplState) (place : Place) (source : Source) (w : View) : Type 0 where
  pub changed : ShowsChanges (unchanged (gone_on s)) w
  pub bytes_are : w.r.r3 ≡ size_of (row_width s)
  pub to_place : StoresTo place w
  pub value : w.r.r9 ≡ in_register (row_width s) (value_at s (row_width s) place)
  pub fits : value_at s (row_width s) place < modulus (row_width s)
  pub count : w.r.r0 ≡ count_of source.number

loaded_is : (op : ShiftOp) (s : GplState) (place : Place) (word : ℕ) → operation_in s ≡ Some (Two (name_of op)) →
    word ≡ in_register (width_in (destination_bytes s)) (value_at s (width_in (destination_bytes s)) place) →
    word ≡ in_register (row_width s) (value_at s (row_width s) place)
loaded_is op s place word known e =
    let bytes : destination_bytes s ≡ size_of (row_width s) = ap (λ o. bytes_by o (row_width s)) known ∙ size_is op (row_width s) in
    let width : width_in (destination_bytes s) ≡ row_width s = ap width_in bytes ∙ width_back (row_width s) in
    e ∙ ap (λ (w : Width). in_register w (value_at s w place)) width

pub count_at : (op : ShiftOp) (s : GplState) (place : Place) (source : Source) (v u : View) → operation_in s ≡ Some (Two (name_of op)) →
    AtRow s place source v → IsView v →
    u ≡ (pieces.asking (shift_entry op) v).left → HasCount s place source (pieces.take_count u).left
count_at op s place source v u known a i is =
    let at : HasCount s place source (with_count (pieces.asking (shift_entry op) v).left (low_four (counted_word v))) =
    (let loaded = loaded_is op s place v.r.r9 known (a.destination (ap reads_destination known ∙ reads op)) in
    record {
      changed = changed_kept (unchanged (gone_on s)) v (with_count (pieces.asking (shift_entry op) v).left (low_four (counted_word v)))
          (row_changed s place source v a) refl;
      bytes_are = a.holds.bytes_are;
      to_place = record { address = a.to_place.address; space = a.to_place.space };
      value = loaded;
      fits = fits_in (row_width s) v.r.r9 (value_at s (row_width s) place) loaded (i.r 9);
      count = count_is (row_width s) v.r.r3 v.r.r6 source.number a.holds.bytes_are a.value (i.r 6);
    }) in
    let P : View → Type 0 = λ w. HasCount s place source w in
    let Q : View → Type 0 = λ w. HasCount s place source (pieces.take_count w).left in
    subst Q (sym is) (subst P (sym (count_taken (pieces.asking (shift_entry op) v).left)) at)

few_counts : (n : ℕ) → count_of n < 16
few_counts n = omega arith

pub stores_none : (op : ShiftOp) (s : GplState) (place : Place) (source : Source) (w : View) → HasCount s place source w → count_of source.number ≡ 0 →
    Storing (unchanged (gone_on s)) (row_width s) place (number_by op (row_width s) (value_at s (row_width s) place) (count_of source.number)) w
stores_none op s place source w h zero =
    let width = row_width s in
    let x = value_at s width place in
    record {
      changed = h.changed;
      bytes_are = h.bytes_are;
      to_place = h.to_place;
      value = ap (of_register width) h.value ∙ back width x ∙ sym (kept_by op width x h.fits) ∙ sym (ap (number_by op width x) zero);
    }

pub stores_some : (op : ShiftOp) (s : GplState) (place : Place) (source : Source) (w : View) → HasCount s place source w →
    Storing (unchanged (gone_on s)) (row_width s) place (number_by op (row_width s) (value_at s (row_width s) place) (count_of source.number))
    (pieces.shifts op w).left
stores_some op s place source w h =
    let width = row_width s in
    let x = value_at s width place in
    let k = (shifts op w).keeps in
    record {
      changed = changed_kept (unchanged (gone_on s)) w (pieces.shifts op w).left h.changed k;
      bytes_are = ap (λ (a : Kept). a.bytes) k ∙ h.bytes_are;
      to_place = record { address = ap (λ (a : Kept). a.address) k ∙ h.to_place.address; space = ap (λ (a : Kept). a.space) k ∙ h.to_place.space };
      value = number_is op width x (count_of source.number) w h.bytes_are h.value h.count h.fits (few_counts source.number);
    }
