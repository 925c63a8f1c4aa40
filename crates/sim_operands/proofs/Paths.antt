-- The runs of the pieces on the view, one path after the other.
use Rattle.std.proofs.Common.{[], ℕ, ◌+◌, ◌<◌, ◌==◌, ◌∷◌, ◌≡◌, arith, false, List, nat_lt, refl, slice_index, slice_set, subst}
use Rattle.std.proofs.Common.{sym, true}
use Rattle.std.proofs.lemmas.Bool.{eq-eqb, eqb-true}
use Rattle.sim_view.specs.Prelude.{conjunction_of}
use Rattle.sim_view.proofs.Common.{ADDR, APTR, ASPACE, Exit, FETCH, high, high-join, INDEX, IsView, join, last_out, LDATA, Leads, leads}
use Rattle.sim_view.proofs.Common.{LOAD, low, Part, part_then, pick, plus, Rest, SDATA, SEEK, shifted, SLA, SREG, SRL, STORE, STREAM, sum_of, View}
use Rattle.sim_view.proofs.Common.{Word, word_in}
use Rattle.sim_operands.specs.Pieces.{past, past_video, with_video_address}
use Rattle.sim_operands.proofs.Facts.{above_cells, at_most, byte_is, down, first_fits, negative, no_other, not_above_one, not_cells, not_limit}
use Rattle.sim_operands.proofs.Facts.{second_fits, spot_cell}
use Rattle.sim_operands.specs.Values.{IsVisible}
use Rattle.sim_operands.specs.Pieces as pieces
use Rattle.sim_view.specs.native_interp.declared.addresses.TheConstants.{AHIGH, ALONG, ALOW, ASHORT, INDEXR, INDEXW, LCELL, LOTHER, LVSET, SCELL, SOTHER, SVSET}

pub fetch : (v : View) → Leads [] v FETCH (pieces.fetch v)
fetch v = record { by = λ f q. refl }

pub range : (v : View) → Leads [] v ASPACE (pieces.range v)
range v = record {
  by = λ f q.
      pick (conjunction_of v.r.r5 1 == 0)
      (λ c. pick (nat_lt 0xC2 v.r.r2)
      (λ d. rw (c, d, not_limit 0xC2 v.r.r2 d) refl)
      (λ d. pick (nat_lt 0xC2 (sum_of Word v.r.r3 v.r.r2))
      (λ e. rw (c, d, e, not_limit 0xC2 (sum_of Word v.r.r3 v.r.r2) e) refl)
      (λ e. rw (c, d, e) refl)))
      (λ c. rw c refl);
}

pub short_range : (v : View) → Leads [] v ASHORT (pieces.short_range v)
short_range v = record {
  by = λ f q.
      pick (nat_lt 4 v.r.r3)
      (λ c. pick (nat_lt 0xC2 v.r.r2)
      (λ d. rw (c, not_limit 4 v.r.r3 c, d, not_limit 0xC2 v.r.r2 d) refl)
      (λ d. pick (nat_lt 0xC2 (sum_of Word v.r.r3 v.r.r2))
      (λ e. rw (c, not_limit 4 v.r.r3 c, d, e, not_limit 0xC2 (sum_of Word v.r.r3 v.r.r2) e) refl)
      (λ e. rw (c, not_limit 4 v.r.r3 c, d, e) refl)))
      (λ c. rw c refl);
}

pub seek : (v : View) → Leads [] v SEEK (pieces.seek v)
seek v = record { by = λ f q. refl }

-- an exit by its cases
pub rest_is : {ends : List ℕ} {made most : ℕ} {v : View} {p : ℕ} {e d : Exit} → d ≡ e → Rest ends made most v p e → Rest ends made most v p d
rest_is {ends = ends} {made = made} {most = most} {v = v} {p = p} is rest = subst (λ (e : Exit). Rest ends made most v p e) (sym is) rest

-- ADDR, part by part
abbrev address_ends : List ℕ
address_ends = APTR ∷ ASHORT ∷ []

abbrev base_of : View → ℕ
base_of v = shifted SRL (shifted SLA v.grom.fetched 12) 4

abbrev with_first : View → View
with_first v = record v { r = record v.r { r2 = join v.grom.fetched (low v.r.r2) }; grom = past v.grom }

abbrev with_base : View → View
with_base v = record v { r = record v.r { r2 = base_of v; r5 = v.grom.fetched }; grom = past v.grom }

first_down : (v : View) → IsView v → shifted SRL (join v.grom.fetched (low v.r.r2)) 8 ≡ v.grom.fetched
first_down v i = down v.grom.fetched (low v.r.r2) i.grom.fetched (omega arith)

address_long : (v : View) → IsView v → nat_lt v.grom.fetched 0x80 ≡ false → Part address_ends 2 v ADDR (with_first v) ALONG
address_long v i c = record { by = λ f. rw (negative v.grom.fetched i.grom.fetched, c) refl }

address_twelve : (v : View) → IsView v → (base_of v == 0x0F00) ≡ false → Part address_ends 6 (with_first v) ALONG (with_base v) ALOW
address_twelve v i d = record { by = λ f. rw (first_down v i, d) refl }

address_sixteen : (v : View) → IsView v → (base_of v == 0x0F00) ≡ true → Part address_ends 6 (with_first v) ALONG (with_base v) AHIGH
address_sixteen v i d = record { by = λ f. rw (first_down v i, d) refl }

twelve_low : (v : View) → IsView v → Rest address_ends 8 8 (with_base v) ALOW (pieces.twelve_bit_address (base_of v) v)
twelve_low v i = record { by = λ f. rw (byte_is (past v.grom).fetched (i.grom.image.fits v.grom.counter)) refl }

sixteen_low : (v : View) → IsView v → Rest address_ends 8 8 (with_base v) AHIGH (pieces.sixteen_bit_address v)
sixteen_low v i = record {
  by = λ f.
      rw (
        byte_is (past (past v.grom)).fetched (i.grom.image.fits (past v.grom).counter),
        high-join (past v.grom).fetched (base_of v),
      ) refl;
}

address_short : (v : View) → IsView v → nat_lt v.grom.fetched 0x80 ≡ true → Rest address_ends 0 16 v ADDR (pieces.one_byte_address v)
address_short v i c = record { by = λ f. rw (negative v.grom.fetched i.grom.fetched, c, first_down v i) refl }

pub address : (v : View) → IsView v → Leads address_ends v ADDR (pieces.address v)
address v i =
    leads address_ends
    (pick (nat_lt v.grom.fetched 0x80)
    (λ c. rest_is (rw (c, pieces.address) refl) (address_short v i c))
    (λ c. pick (base_of v == 0x0F00)
    (λ d. rest_is (rw (c, d, pieces.address) refl) (part_then address_ends 2 0 14 (address_long v i c)
    (part_then address_ends 6 2 8 (address_sixteen v i d) (sixteen_low v i))))
    (λ d. rest_is (rw (c, d, pieces.address) refl) (part_then address_ends 2 0 14 (address_long v i c)
    (part_then address_ends 6 2 8 (address_twelve v i d) (twelve_low v i))))))

pub pointer : (v : View) → IsView v → Leads (INDEX ∷ []) v APTR (pieces.pointer v)
pointer v i = record {
  by = λ f q.
      pick (last_out SRL v.r.r5 5)
      (λ c. pick (nat_lt 0xC0 v.r.r2)
      (λ d. rw (c, d, not_limit 0xC0 v.r.r2 d) refl)
      (λ d. let below = at_most 0xC0 v.r.r2 d in
      pick (v.r.r2 == 0x7C)
      (λ e. rw (c, d, e) refl)
      (λ e. let first = spot_cell (plus 0x8300 v.r.r2) v.r.r2 (omega arith) (omega arith) in
      let second = spot_cell (plus 0x8301 v.r.r2) (v.r.r2 + 1) (omega arith) (omega arith) in
      rw (
        c,
        d,
        e,
        first,
        second,
        byte_is (slice_index v.cells (v.r.r2 + 1)) (i.cells (v.r.r2 + 1)),
        high-join (slice_index v.cells v.r.r2) v.r.r4,
      ) refl)))
      (λ c. rw c refl);
}

-- INDEX, part by part
abbrev with_form : View → View
with_form v = record v { r = record v.r { r4 = shifted SRL v.r.r5 2 } }

abbrev with_offset : View → View
with_offset v = record v { r = record v.r { r4 = v.grom.fetched }; grom = past v.grom }

index_some : (v : View) → last_out SRL v.r.r5 2 ≡ true → Part (ASPACE ∷ []) 3 v INDEX (with_form v) INDEXR
index_some v c = record { by = λ f. rw c refl }

index_near : (v : View) → IsView v → nat_lt 0xC0 v.grom.fetched ≡ false → Part (ASPACE ∷ []) 4 (with_form v) INDEXR (with_offset v) INDEXW
index_near v i d = record { by = λ f. rw (down v.grom.fetched (low (shifted SRL v.r.r5 2)) i.grom.fetched (omega arith), d) refl }

abbrev index_rejected : View → Exit
index_rejected v = pieces.operand_stop 8 (with_offset v)

index_far : (v : View) → IsView v → nat_lt 0xC0 v.grom.fetched ≡ true → Rest (ASPACE ∷ []) 3 13 (with_form v) INDEXR (index_rejected v)
index_far v i d =
    record { by = λ f. rw (down v.grom.fetched (low (shifted SRL v.r.r5 2)) i.grom.fetched (omega arith), d, not_limit 0xC0 v.grom.fetched d) refl }

abbrev index_added : View → Exit
index_added v =
    let offset = v.grom.fetched in
    pieces.exit 10 ASPACE (record v {
      r = record v.r { r2 = sum_of Word v.r.r2 (word_in v.cells offset); r4 = offset; r6 = word_in v.cells offset };
      grom = past v.grom;
    })

index_word : (v : View) → IsView v → nat_lt 0xC0 v.grom.fetched ≡ false → Rest (ASPACE ∷ []) 7 9 (with_offset v) INDEXW (index_added v)
index_word v i d = record {
  by = λ f.
      let offset = v.grom.fetched in
      let below = at_most 0xC0 offset d in
      let first = spot_cell (plus 0x8300 offset) offset (omega arith) (omega arith) in
      let second = spot_cell (plus 0x8301 offset) (offset + 1) (omega arith) (omega arith) in
      rw (first, second, byte_is (slice_index v.cells (offset + 1)) (i.cells (offset + 1)), high-join (slice_index v.cells offset) v.r.r6) refl;
}

index_none : (v : View) → last_out SRL v.r.r5 2 ≡ false → Rest (ASPACE ∷ []) 0 16 v INDEX (pieces.exit 3 ASPACE (with_form v))
index_none v c = record { by = λ f. rw c refl }

pub index : (v : View) → IsView v → Leads (ASPACE ∷ []) v INDEX (pieces.index v)
index v i =
    leads (ASPACE ∷ [])
    (pick (last_out SRL v.r.r5 2)
    (λ c. pick (nat_lt 0xC0 v.grom.fetched)
    (λ d. rest_is (rw (c, d, pieces.index) refl) (part_then (ASPACE ∷ []) 3 0 13 (index_some v c) (index_far v i d)))
    (λ d. rest_is (rw (c, d, pieces.index) refl) (part_then (ASPACE ∷ []) 3 0 13 (index_some v c)
    (part_then (ASPACE ∷ []) 4 3 9 (index_near v i d) (index_word v i d)))))
    (λ c. rest_is (rw (c, pieces.index) refl) (index_none v c)))

-- LOAD
abbrev video_at : ℕ → ℕ
video_at address = shifted SRL (shifted SLA address 2) 2

abbrev load_ends : List ℕ
load_ends = LDATA ∷ STREAM ∷ []

abbrev load_at : View → View
load_at v = record v { r = record v.r { r4 = video_at v.r.r2 } }

load_elsewhere : (v : View) → (v.r.r5 == 0) ≡ false → Part load_ends 2 v LOAD v LOTHER
load_elsewhere v c = record { by = λ f. rw c refl }

load_video_at : (v : View) → (v.r.r5 == 1) ≡ true → Part load_ends 5 v LOTHER (load_at v) LVSET
load_video_at v c = record { by = λ f. rw (c, not_above_one v.r.r5 c) refl }

load_sets : (v : View) → Rest load_ends 7 9 v LVSET (pieces.exit 9 LDATA (record v { vdp = with_video_address v.r.r4 v.vdp }))
load_sets v = record { by = λ f. refl }

load_set : (v : View) → (v.r.r5 == 1) ≡ true → Leads load_ends v LOAD (pieces.load v)
load_set v c =
    leads load_ends (rest_is (rw (c, pieces.load) refl) (part_then load_ends 2 0 14 (load_elsewhere v (not_cells v.r.r5 c))
    (part_then load_ends 5 2 9 (load_video_at v c) (load_sets (load_at v)))))

load_here : (v : View) → (v.r.r5 == 0) ≡ true → Part load_ends 2 v LOAD v LCELL
load_here v c = record { by = λ f. rw c refl }

load_byte : (v : View) → v.r.r2 < 194 → (v.r.r3 == 1) ≡ true →
    Rest load_ends 2 14 v LCELL (pieces.exit 7 (pieces.return_of v) (record v { r = record v.r { r6 = join (slice_index v.cells v.r.r2) 0 } }))
load_byte v h e = record { by = λ f. rw (spot_cell (plus 0x8300 v.r.r2) v.r.r2 (omega arith) h, e) refl }

load_word : (v : View) → IsView v → v.r.r2 + 1 < 194 → (v.r.r3 == 1) ≡ false →
    Rest load_ends 2 14 v LCELL (pieces.exit 8 (pieces.return_of v) (record v { r = record v.r { r6 = word_in v.cells v.r.r2 } }))
load_word v i h e = record {
  by = λ f.
      let first = spot_cell (plus 0x8300 v.r.r2) v.r.r2 (omega arith) (omega arith) in
      let second = spot_cell (plus 0x8301 v.r.r2) (v.r.r2 + 1) (omega arith) h in
      rw (first, e, second, byte_is (slice_index v.cells (v.r.r2 + 1)) (i.cells (v.r.r2 + 1)), high-join (slice_index v.cells v.r.r2) 0) refl;
}

load_cells : (v : View) → IsView v → IsVisible v.r.r5 v.r.r2 v.r.r3 → (v.r.r5 == 1) ≡ false → nat_lt 1 v.r.r5 ≡ false →
    Rest load_ends 0 16 v LOAD (pieces.load v)
load_cells v i h c d =
    let zero = no_other v.r.r5 c d in
    let here = load_here v (eq-eqb v.r.r5 0 zero) in
    pick (v.r.r3 == 1)
    (λ e. rest_is (rw (c, d, e, pieces.load) refl) (part_then load_ends 2 0 14 here (load_byte v (first_fits v.r.r5 v.r.r2 v.r.r3 h zero) e)))
    (λ e. rest_is (rw (c, d, e, pieces.load) refl) (part_then load_ends 2 0 14 here (load_word v i (second_fits v.r.r5 v.r.r2 v.r.r3 h zero e) e)))

load_streams : (v : View) → (v.r.r5 == 1) ≡ false → nat_lt 1 v.r.r5 ≡ true → Leads load_ends v LOAD (pieces.load v)
load_streams v c d = record { by = λ f q. rw (above_cells v.r.r5 d, c, d) refl }

pub load : (v : View) → IsView v → IsVisible v.r.r5 v.r.r2 v.r.r3 → Leads load_ends v LOAD (pieces.load v)
load v i h =
    pick (v.r.r5 == 1) (λ c. load_set v c)
    (λ c. pick (nat_lt 1 v.r.r5) (λ d. load_streams v c d) (λ d. leads load_ends (load_cells v i h c d)))

-- STORE
abbrev store_ends : List ℕ
store_ends = SDATA ∷ SREG ∷ []

abbrev store_at : View → View
store_at v = record v { r = record v.r { r4 = sum_of Word (video_at v.r.r7) 0x4000 } }

store_elsewhere : (v : View) → (v.r.r8 == 0) ≡ false → Part store_ends 2 v STORE v SOTHER
store_elsewhere v c = record { by = λ f. rw c refl }

store_video_at : (v : View) → (v.r.r8 == 1) ≡ true → Part store_ends 6 v SOTHER (store_at v) SVSET
store_video_at v c = record { by = λ f. rw (c, not_above_one v.r.r8 c) refl }

store_sets : (v : View) → Rest store_ends 8 8 v SVSET (pieces.exit 10 SDATA (record v { vdp = with_video_address v.r.r4 v.vdp }))
store_sets v = record { by = λ f. refl }

store_set : (v : View) → (v.r.r8 == 1) ≡ true → Leads store_ends v STORE (pieces.store v)
store_set v c =
    leads store_ends (rest_is (rw (c, pieces.store) refl) (part_then store_ends 2 0 14 (store_elsewhere v (not_cells v.r.r8 c))
    (part_then store_ends 6 2 8 (store_video_at v c) (store_sets (store_at v)))))

-- after the first byte
abbrev with_one : View → View
with_one v = record v { r = record v.r { r13 = pieces.marked 0x7D v.r.r7 v.r.r13 }; cells = slice_set v.cells v.r.r7 (high v.r.r9) }

store_first : (v : View) → v.r.r7 < 194 → v.r.r8 ≡ 0 → (v.r.r7 == 0x7D) ≡ false → Part store_ends 5 v STORE (with_one v) SCELL
store_first v h z e = record { by = λ f. rw (z, spot_cell (plus 0x8300 v.r.r7) v.r.r7 (omega arith) h, e) refl }

store_mark : (v : View) → v.r.r7 < 194 → v.r.r8 ≡ 0 → (v.r.r7 == 0x7D) ≡ true → Part store_ends 6 v STORE (with_one v) SCELL
store_mark v h z e = record { by = λ f. rw (z, spot_cell (plus 0x8300 v.r.r7) v.r.r7 (omega arith) h, e) refl }

-- the rest after it
abbrev with_two : View → View
with_two v =
    record v {
      r = record v.r { r13 = pieces.marked 0x7C v.r.r7 (pieces.marked 0x7D v.r.r7 v.r.r13) };
      cells = slice_set (slice_set v.cells v.r.r7 (high v.r.r9)) (v.r.r7 + 1) (low v.r.r9);
    }

byte_rest : (v : View) → (v.r.r3 == 1) ≡ true → Rest store_ends 5 11 (with_one v) SCELL (pieces.exit 8 (pieces.return_of v) (with_one v))
byte_rest v c = record { by = λ f. rw c refl }

byte_rest_marked : (v : View) → (v.r.r3 == 1) ≡ true → Rest store_ends 6 10 (with_one v) SCELL (pieces.exit 9 (pieces.return_of v) (with_one v))
byte_rest_marked v c = record { by = λ f. rw c refl }

word_rest : (v : View) → v.r.r7 + 1 < 194 → (v.r.r3 == 1) ≡ false → (v.r.r7 == 0x7C) ≡ false →
    Rest store_ends 5 11 (with_one v) SCELL (pieces.exit 11 (pieces.return_of v) (with_two v))
word_rest v h c d = record { by = λ f. rw (c, spot_cell (plus 0x8301 v.r.r7) (v.r.r7 + 1) (omega arith) h, d) refl }

word_rest_marked : (v : View) → v.r.r7 + 1 < 194 → (v.r.r3 == 1) ≡ false → (v.r.r7 == 0x7C) ≡ false →
    Rest store_ends 6 10 (with_one v) SCELL (pieces.exit 12 (pieces.return_of v) (with_two v))
word_rest_marked v h c d = record { by = λ f. rw (c, spot_cell (plus 0x8301 v.r.r7) (v.r.r7 + 1) (omega arith) h, d) refl }

word_rest_second : (v : View) → v.r.r7 + 1 < 194 → (v.r.r3 == 1) ≡ false → (v.r.r7 == 0x7C) ≡ true →
    Rest store_ends 5 11 (with_one v) SCELL (pieces.exit 12 (pieces.return_of v) (with_two v))
word_rest_second v h c d = record { by = λ f. rw (c, spot_cell (plus 0x8301 v.r.r7) (v.r.r7 + 1) (omega arith) h, d) refl }

apart : (n : ℕ) → (n == 0x7D) ≡ true → (n == 0x7C) ≡ false
apart n e = let is : n ≡ 0x7D = eqb-true n 0x7D e in rw is refl

store_cells : (v : View) → IsVisible v.r.r8 v.r.r7 v.r.r3 → (v.r.r8 == 1) ≡ false → nat_lt 1 v.r.r8 ≡ false →
    Rest store_ends 0 16 v STORE (pieces.store v)
store_cells v h c d =
    let zero = no_other v.r.r8 c d in
    let fits = first_fits v.r.r8 v.r.r7 v.r.r3 h zero in
    pick (v.r.r7 == 0x7D)
    (λ e. let n = apart v.r.r7 e in
    pick (v.r.r3 == 1)
    (λ b. rest_is (rw (c, d, b, e, pieces.store) refl) (part_then store_ends 6 0 10 (store_mark v fits zero e) (byte_rest_marked v b)))
    (λ b. let more = second_fits v.r.r8 v.r.r7 v.r.r3 h zero b in
    rest_is (rw (c, d, b, e, n, pieces.store) refl) (part_then store_ends 6 0 10 (store_mark v fits zero e) (word_rest_marked v more b n))))
    (λ e.
    pick (v.r.r3 == 1)
    (λ b. rest_is (rw (c, d, b, e, pieces.store) refl) (part_then store_ends 5 0 11 (store_first v fits zero e) (byte_rest v b)))
    (λ b. let more = second_fits v.r.r8 v.r.r7 v.r.r3 h zero b in
    pick (v.r.r7 == 0x7C)
    (λ g. rest_is (rw (c, d, b, e, g, pieces.store) refl) (part_then store_ends 5 0 11 (store_first v fits zero e) (word_rest_second v more b g)))
    (λ g. rest_is (rw (c, d, b, e, g, pieces.store) refl) (part_then store_ends 5 0 11 (store_first v fits zero e) (word_rest v more b g)))))

store_sets_register : (v : View) → (v.r.r8 == 1) ≡ false → nat_lt 1 v.r.r8 ≡ true → Leads store_ends v STORE (pieces.store v)
store_sets_register v c d = record { by = λ f q. rw (above_cells v.r.r8 d, c, d) refl }

pub store : (v : View) → IsVisible v.r.r8 v.r.r7 v.r.r3 → Leads store_ends v STORE (pieces.store v)
store v h =
    pick (v.r.r8 == 1) (λ c. store_set v c)
    (λ c. pick (nat_lt 1 v.r.r8) (λ d. store_sets_register v c d) (λ d. leads store_ends (store_cells v h c d)))

pub load_video : (v : View) → IsView v → Leads [] v LDATA (pieces.load_video v)
load_video v i = record {
  by = λ f q.
      pick (v.r.r3 == 1)
      (λ c. rw c refl)
      (λ c. rw (c, byte_is (past_video v.vdp).fetched (i.vdp.memory.fits v.vdp.address), high-join v.vdp.fetched 0) refl);
}

pub stream : (v : View) → IsView v → Leads [] v STREAM (pieces.stream v)
stream v i = record {
  by = λ f q.
      pick (v.r.r3 == 1)
      (λ c. rw c refl)
      (λ c. rw (c, byte_is (past v.grom).fetched (i.grom.image.fits v.grom.counter), high-join v.grom.fetched 0) refl);
}

pub store_video : (v : View) → Leads [] v SDATA (pieces.store_video v)
store_video v = record { by = λ f q. pick (v.r.r3 == 1) (λ c. rw c refl) (λ c. rw c refl) }

pub store_register : (v : View) → Leads [] v SREG (pieces.store_register v)
store_register v = record { by = λ f q. refl }
