-- The pieces of LOAD and STORE carry a value.
use Rattle.std.proofs.Common.{ℕ, ◌%◌, ◌+◌, ◌/◌, ◌<◌, ◌==◌, ◌∙◌, ◌≡◌, ap, arith, Bool, false, if◌then◌else◌, nat_lt, None}
use Rattle.std.proofs.Common.{refl, slice_index, subst, sym, true}
use Rattle.std.proofs.lemmas.Bool.{eq-eqb, eqb-true, ltb-true, ne_eqb}
use Rattle.sim_view.proofs.Common.{Byte, Exit, Goes, goes_in, GromState, high, join, LDATA, low, next_in_vdp, NoOperation, pair_kind}
use Rattle.sim_view.proofs.Common.{PairKind, pick, plus, ReadSetup, RegisterWrite, SDATA, shifted, SLA, SREG, SRL, STREAM, sum_of, unchanged}
use Rattle.sim_view.proofs.Common.{value_at, VdpState, View, with_register, with_value, Word}
use Rattle.sim_view.proofs.Common.{WriteSetup}
use Rattle.sim_operands.specs.Pieces.{with_video_address}
use Rattle.sim_operands.specs.Values.{IsVisible, of_register, width_in}
use Rattle.sim_operands.specs.Subroutines.{grom_at, Loaded, next_at, place_in, state_of, Stored, streamed}
use Rattle.sim_operands.proofs.Facts.{not_both, second_fits}
use Rattle.sim_operands.specs.Pieces as pieces

-- ---- cells

after_is : (offset : ℕ) → offset + 1 < 194 → plus offset 1 ≡ offset + 1
after_is offset h = omega arith

-- the value of LOAD
abbrev pub loaded_by : View → View → Type 0
loaded_by v = Loaded v (value_at (state_of v) (width_in v.r.r3) (place_in v.r.r5 v.r.r2))

pub load_cells : (v : View) → v.r.r5 ≡ 0 → IsVisible v.r.r5 v.r.r2 v.r.r3 → Goes (pieces.load v) 15 (pieces.return_of v) (loaded_by v)
load_cells v z h =
    pick (v.r.r3 == 1)
    (λ c. rw (z, c, pieces.load)
    (goes_in (omega arith) (record { r4 = v.r.r4; address = v.vdp.address; byte = v.vdp.fetched; is = rw c refl })))
    (λ c. let fits = second_fits v.r.r5 v.r.r2 v.r.r3 h z c in
    rw (z, c, pieces.load) (goes_in (omega arith)
    (record { r4 = v.r.r4; address = v.vdp.address; byte = v.vdp.fetched; is = rw (c, after_is v.r.r2 fits) refl })))

-- ---- video memory

video_at : (address : ℕ) → address < 65536 → shifted SRL (shifted SLA address 2) 2 ≡ address % 16384
video_at address h = omega arith

-- the kind of a pair by the top bits of its second byte
abbrev pub kind_by : ℕ → PairKind
kind_by bits =
    if bits == 0 then ReadSetup else if bits == 1 then WriteSetup else if bits == 2 then RegisterWrite else NoOperation

pub read_kind : (at : ℕ) → at < 16384 → pair_kind (high at) ≡ ReadSetup
read_kind at h = let n : high at / 64 ≡ 0 = omega arith in ap kind_by n

pub pair_is : (at : ℕ) → at < 16384 → join (high at % 64) (low at) ≡ at
pair_is at h = omega arith

-- the video processor, set to an address for reading
abbrev pub reading_from : ℕ → VdpState → VdpState
reading_from at vdp = record vdp { address = next_in_vdp at; fetched = slice_index vdp.memory at }

set_for_reading : (vdp : VdpState) (at : ℕ) → vdp.held ≡ None → at < 16384 → with_video_address at vdp ≡ reading_from at vdp
set_for_reading vdp at h k = rw (h, read_kind at k, pair_is at k) refl

write_kind : (at : ℕ) → at < 16384 → pair_kind (high (at + 0x4000)) ≡ WriteSetup
write_kind at h = let n : high (at + 0x4000) / 64 ≡ 1 = omega arith in ap kind_by n

write_pair : (at : ℕ) → at < 16384 → join (high (at + 0x4000) % 64) (low (at + 0x4000)) ≡ at
write_pair at h = omega arith

set_for_writing : (vdp : VdpState) (at : ℕ) → vdp.held ≡ None → at < 16384 → with_video_address (at + 0x4000) vdp ≡ record vdp { address = at }
set_for_writing vdp at h k = rw (h, write_kind at k, write_pair at k) refl

-- LOAD's first piece and its second
pub load_sets : (v : View) → (v.r.r5 == 1) ≡ true → v.vdp.held ≡ None → v.r.r2 < 65536 →
    pieces.load v ≡ pieces.exit 9 LDATA (record v { r = record v.r { r4 = v.r.r2 % 16384 }; vdp = reading_from (v.r.r2 % 16384) v.vdp })
load_sets v c h k =
    let a : shifted SRL (shifted SLA v.r.r2 2) 2 ≡ v.r.r2 % 16384 = video_at v.r.r2 k in
    let at : ℕ → Exit = λ n. pieces.exit 9 LDATA (record v { r = record v.r { r4 = n }; vdp = with_video_address n v.vdp }) in
    let set : VdpState → Exit = λ d. pieces.exit 9 LDATA (record v { r = record v.r { r4 = v.r.r2 % 16384 }; vdp = d }) in
    rw (c, pieces.load) (ap at a ∙ ap set (set_for_reading v.vdp (v.r.r2 % 16384) h (omega arith)))

next_address : (address : ℕ) → address < 65536 → next_in_vdp (address % 16384) ≡ plus address 1 % 16384
next_address address h = omega arith

one_is : (number : ℕ) → (number == 1) ≡ true → number ≡ 1
one_is number c = eqb-true number 1 c

-- what the second piece makes of the first one's view
abbrev set_view : View → View
set_view v = record v { r = record v.r { r4 = v.r.r2 % 16384 }; vdp = reading_from (v.r.r2 % 16384) v.vdp }

load_video_by : (v : View) → v.r.r5 ≡ 1 → v.vdp.held ≡ None → v.r.r2 < 65536 → Goes (pieces.load_video (set_view v)) 6 (pieces.return_of v) (loaded_by v)
load_video_by v o h k =
    let at = v.r.r2 % 16384 in
    let next = next_in_vdp at in
    pick (v.r.r3 == 1)
    (λ c. rw (o, c, pieces.load_video)
    (goes_in (omega arith) (record { r4 = at; address = next_in_vdp next; byte = slice_index v.vdp.memory next; is = rw (c, h) refl })))
    (λ c. let last = next_in_vdp next in
    rw (o, c, pieces.load_video) (goes_in (omega arith)
    (record { r4 = at; address = next_in_vdp last; byte = slice_index v.vdp.memory last; is = rw (c, h, next_address v.r.r2 k) refl })))

-- LOAD's second piece, after the first
pub load_video : (v w : View) → (v.r.r5 == 1) ≡ true → v.vdp.held ≡ None → v.r.r2 < 65536 → w ≡ (pieces.load v).left →
    Goes (pieces.load_video w) 6 (pieces.return_of v) (loaded_by v)
load_video v w c h k e =
    let is : w ≡ set_view v = e ∙ ap (λ (x : Exit). x.left) (load_sets v c h k) in
    subst (λ (u : View). Goes (pieces.load_video u) 6 (pieces.return_of v) (loaded_by v)) (sym is) (load_video_by v (one_is v.r.r5 c) h k)

-- ---- the bytes that follow

pub goes_on : (v : View) → nat_lt 1 v.r.r5 ≡ true → pieces.load v ≡ pieces.exit 4 STREAM v
goes_on v c =
    let l : 1 < v.r.r5 = ltb-true 1 v.r.r5 c in
    let n : (v.r.r5 == 1) ≡ false = ne_eqb v.r.r5 1 (λ e. omega arith) in
    rw (n, c, pieces.load) refl

pub streams : (v : View) → v.grom ≡ grom_at v.grom.image (next_at v) → Goes (pieces.stream v) 6 (pieces.return_of v) (λ w. w ≡ streamed v)
streams v e =
    let at : GromState → Type 0 = λ g. Goes (pieces.stream (record v { grom = g })) 6 (pieces.return_of v) (λ w. w ≡ streamed v) in
    subst at (sym e)
    (pick (v.r.r3 == 1)
    (λ c. rw (c, pieces.stream) (record { within = omega arith; to_is = refl; holds = refl }))
    (λ c. rw (c, pieces.stream) (record { within = omega arith; to_is = refl; holds = refl })))

-- ---- STORE: cells

-- what STORE makes of a view
abbrev pub stored_by : View → View → Type 0
stored_by v =
    let width = width_in v.r.r3 in
    Stored v (with_value width (place_in v.r.r8 v.r.r7) (of_register width v.r.r9) (unchanged (state_of v)))

apart : (n : ℕ) → (n == 0x7D) ≡ true → (n == 0x7C) ≡ false
apart n c = let e : n ≡ 0x7D = eqb-true n 0x7D c in rw e refl

next_cell : (n : ℕ) (is : Bool) → (n == 0x7C) ≡ is → (n + 1 == 0x7D) ≡ is
next_cell n true c = let e : n ≡ 0x7C = eqb-true n 0x7C c in rw e refl
next_cell n false c = ne_eqb (n + 1) 0x7D (λ e. let f : n ≡ 0x7C = omega arith in absurd (not_both (n == 0x7C) (eq-eqb n 0x7C f) c))

store_byte : (v : View) → v.r.r8 ≡ 0 → (v.r.r3 == 1) ≡ true → Goes (pieces.store_byte v) 15 (pieces.return_of v) (stored_by v)
store_byte v z c =
    pick (v.r.r7 == 0x7D)
    (λ d. rw (z, c, d, pieces.store_byte)
    (goes_in (omega arith) (record { r4 = v.r.r4; address = v.vdp.address; byte = v.vdp.fetched; is = refl })))
    (λ d. rw (z, c, d, pieces.store_byte)
    (goes_in (omega arith) (record { r4 = v.r.r4; address = v.vdp.address; byte = v.vdp.fetched; is = refl })))

store_word : (v : View) → v.r.r8 ≡ 0 → (v.r.r3 == 1) ≡ false → v.r.r7 + 1 < 194 → Goes (pieces.store_word v) 15 (pieces.return_of v) (stored_by v)
store_word v z c h =
    let b = after_is v.r.r7 h in
    pick (v.r.r7 == 0x7D)
    (λ d. let e = apart v.r.r7 d in
    rw (z, c, b, d, e, next_cell v.r.r7 false e, pieces.store_word)
    (goes_in (omega arith) (record { r4 = v.r.r4; address = v.vdp.address; byte = v.vdp.fetched; is = refl })))
    (λ d. pick (v.r.r7 == 0x7C)
    (λ e. rw (z, c, b, d, e, next_cell v.r.r7 true e, pieces.store_word)
    (goes_in (omega arith) (record { r4 = v.r.r4; address = v.vdp.address; byte = v.vdp.fetched; is = refl })))
    (λ e. rw (z, c, b, d, e, next_cell v.r.r7 false e, pieces.store_word)
    (goes_in (omega arith) (record { r4 = v.r.r4; address = v.vdp.address; byte = v.vdp.fetched; is = refl }))))

pub store_cells : (v : View) → v.r.r8 ≡ 0 → IsVisible v.r.r8 v.r.r7 v.r.r3 → Goes (pieces.store v) 15 (pieces.return_of v) (stored_by v)
store_cells v z h =
    let at : Exit → Type 0 = λ e. Goes e 15 (pieces.return_of v) (stored_by v) in
    pick (v.r.r3 == 1)
    (λ c. let is : pieces.store v ≡ pieces.store_byte v = rw (z, c, pieces.store) refl in subst at (sym is) (store_byte v z c))
    (λ c. let is : pieces.store v ≡ pieces.store_word v = rw (z, c, pieces.store) refl in subst at (sym is)
    (store_word v z c (second_fits v.r.r8 v.r.r7 v.r.r3 h z c)))

-- ---- STORE: video memory

-- the video processor, set to an address for writing
abbrev pub writing_to : ℕ → VdpState → VdpState
writing_to at vdp = record vdp { address = at }

abbrev written_view : View → View
written_view v = record v { r = record v.r { r4 = v.r.r7 % 16384 + 0x4000 }; vdp = writing_to (v.r.r7 % 16384) v.vdp }

write_at : (at : ℕ) → at < 16384 → sum_of Word at 0x4000 ≡ at + 0x4000
write_at at h = omega arith

pub store_sets : (v : View) → (v.r.r8 == 1) ≡ true → v.vdp.held ≡ None → v.r.r7 < 65536 → pieces.store v ≡ pieces.exit 10 SDATA (written_view v)
store_sets v c h k =
    let a : sum_of Word (shifted SRL (shifted SLA v.r.r7 2) 2) 0x4000 ≡ v.r.r7 % 16384 + 0x4000 = ap (λ (n : ℕ). sum_of Word n 0x4000) (video_at v.r.r7 k)
    ∙ write_at (v.r.r7 % 16384) (omega arith) in
    let at : ℕ → Exit = λ n. pieces.exit 10 SDATA (record v { r = record v.r { r4 = n }; vdp = with_video_address n v.vdp }) in
    let set : VdpState → Exit = λ d. pieces.exit 10 SDATA (record v { r = record v.r { r4 = v.r.r7 % 16384 + 0x4000 }; vdp = d }) in
    rw (c, pieces.store) (ap at a ∙ ap set (set_for_writing v.vdp (v.r.r7 % 16384) h (omega arith)))

store_video_by : (v : View) → v.r.r8 ≡ 1 → v.vdp.held ≡ None → v.r.r7 < 65536 → Goes (pieces.store_video (written_view v)) 5 (pieces.return_of v) (stored_by v)
store_video_by v o h k =
    let at = v.r.r7 % 16384 in
    pick (v.r.r3 == 1)
    (λ c. rw (o, c, pieces.store_video)
    (goes_in (omega arith) (record { r4 = at + 0x4000; address = next_in_vdp at; byte = high v.r.r9; is = rw h refl })))
    (λ c. rw (o, c, pieces.store_video)
    (goes_in (omega arith)
    (record { r4 = at + 0x4000; address = next_in_vdp (next_in_vdp at); byte = low v.r.r9; is = rw (h, next_address v.r.r7 k) refl })))

pub store_video : (v w : View) → (v.r.r8 == 1) ≡ true → v.vdp.held ≡ None → v.r.r7 < 65536 → w ≡ (pieces.store v).left →
    Goes (pieces.store_video w) 5 (pieces.return_of v) (stored_by v)
store_video v w c h k e =
    let is : w ≡ written_view v = e ∙ ap (λ (x : Exit). x.left) (store_sets v c h k) in
    subst (λ (u : View). Goes (pieces.store_video u) 5 (pieces.return_of v) (stored_by v)) (sym is) (store_video_by v (one_is v.r.r8 c) h k)

-- ---- STORE: a register of the video processor

pub stores_on : (v : View) → nat_lt 1 v.r.r8 ≡ true → pieces.store v ≡ pieces.exit 4 SREG v
stores_on v c =
    let l : 1 < v.r.r8 = ltb-true 1 v.r.r8 c in
    let n : (v.r.r8 == 1) ≡ false = ne_eqb v.r.r8 1 (λ e. omega arith) in
    rw (n, c, pieces.store) refl

register_kind : (number : ℕ) → number < 8 → pair_kind (low (sum_of Word number 0x80)) ≡ RegisterWrite
register_kind number h = let n : low (sum_of Word number 0x80) / 64 ≡ 2 = omega arith in ap kind_by n

register_is : (number : ℕ) → number < 8 → low (sum_of Word number 0x80) % 8 ≡ number
register_is number h = omega arith

pub store_register : (v : View) → v.vdp.held ≡ None → v.r.r7 < 8 → Goes (pieces.store_register v) 5 (pieces.return_of v)
    (Stored v (with_register v.r.r7 (of_register Byte v.r.r9) (unchanged (state_of v))))
store_register v h k =
    goes_in (omega arith) (record {
      r4 = sum_of Word v.r.r7 0x80;
      address = v.vdp.address;
      byte = v.vdp.fetched;
      is = rw (h, register_kind v.r.r7 k, register_is v.r.r7 k) refl;
    })
