-- The runs of the pieces on the view.
use Rattle.std.proofs.Common.{[], ℕ, ◌+◌, ◌-◌, ◌<◌, ◌==◌, ◌∷◌, ◌≡◌, arith, Bool, false, if◌then◌else◌, List, nat_lt, refl, true}
pub use Rattle.sim_rows.proofs.Common.{piece}
use Rattle.sim_rows.proofs.Common.{CHARACTER, COPY, COPYN, COPYS, difference_of, Exit, exit, Leads, leads, LOAD, MOVEB, not_limit, Part, part_then, pick, Rest}
use Rattle.sim_rows.proofs.Common.{rest_is, RESUME, with_video_address, SHOW, spot_cell, STORE, sum_of, View, Word}
use Rattle.sim_rows.specs.native_interp.declared.addresses.TheConstants.{COPYCC, COPYCV, COPYE, COPYGC, COPYGV, COPYVA, COPYVC, COPYVV, MOVEP, SETR, SETW}
use Rattle.sim_rows.specs.native_interp.declared.addresses.TheConstants.{SETWA}
use Rattle.sim_move.specs.Bytes.{MayGo, Points}
use Rattle.sim_move.specs.CopyPieces.{CellsToCells, CellsToVideo, first_cell, GromToCells, GromToVideo, VideoToCells}
use Rattle.sim_move.specs.CopyPieces.{VideoToVideo}
use Rattle.sim_rows.specs.sim_operands.Pieces.{one_if}
use Rattle.sim_move.specs.CopyPieces as pieces

abbrev begin_ends : List ℕ
begin_ends = COPYE ∷ COPY ∷ SETR ∷ SETW ∷ COPYCC ∷ COPYGC ∷ []

-- MOVEB, up to MOVEP: a target in the cells, and whether there is a mark
record InCells (v : View) : Type 0 where
  some : (v.r.r12 == 0) ≡ false
  no_video : (v.r.r8 == 1) ≡ false
  no_registers : nat_lt 1 v.r.r8 ≡ false

abbrev until : View → ℕ
until v = difference_of Word CHARACTER v.r.r7

abbrev marked : View → View
marked v = record v { r = record v.r { r4 = until v; r13 = if pieces.is_marked v then 0xFFFF else v.r.r13 } }

unmarked_part : (v : View) → InCells v → pieces.is_marked v ≡ false → Part begin_ends 9 v MOVEB (marked v) MOVEP
unmarked_part v i c = record { by = λ f. rw (i.some, i.no_video, i.no_registers, c) refl }

marked_part : (v : View) → InCells v → pieces.is_marked v ≡ true → Part begin_ends 10 v MOVEB (marked v) MOVEP
marked_part v i c = record { by = λ f. rw (i.some, i.no_video, i.no_registers, c, not_limit (until v) v.r.r12 c) refl }

-- from MOVEP on, by the space of the source
abbrev after_mark : ℕ → View → Exit
after_mark count v =
    let w : View = record v { r = record v.r { r7 = sum_of Word v.r.r7 first_cell } } in
    if v.r.r5 == 1 then exit (count + 3) SETR w
    else if nat_lt 1 v.r.r5 then exit (count + 4) COPYGC w
    else exit (count + 5) COPYCC (pieces.from_cells w)

unmarked_rest : (v : View) → Rest begin_ends 9 7 v MOVEP (after_mark 9 v)
unmarked_rest v = record {
  by = λ f.
      pick (v.r.r5 == 1)
      (λ c. rw c refl)
      (λ c. pick (nat_lt 1 v.r.r5)
      (λ d. rw (c, d) refl)
      (λ d. rw (c, d) refl));
}

marked_rest : (v : View) → Rest begin_ends 10 6 v MOVEP (after_mark 10 v)
marked_rest v = record {
  by = λ f.
      pick (v.r.r5 == 1)
      (λ c. rw c refl)
      (λ c. pick (nat_lt 1 v.r.r5)
      (λ d. rw (c, d) refl)
      (λ d. rw (c, d) refl));
}

-- the exit of a begin in the cells, by the mark
begins_in_cells : (v : View) (marks : Bool) → InCells v → pieces.is_marked v ≡ marks →
    pieces.begin_copy v ≡ after_mark (if marks then 10 else 9) (marked v)
begins_in_cells v true i c = rw (i.some, i.no_video, i.no_registers, c, pieces.begin_copy) refl
begins_in_cells v false i c = rw (i.some, i.no_video, i.no_registers, c, pieces.begin_copy) refl

pub begin_copy : (v : View) → Leads begin_ends v MOVEB (pieces.begin_copy v)
begin_copy v =
    pick (v.r.r12 == 0)
    (λ c. record { by = λ f q. rw c refl })
    (λ c. pick (v.r.r8 == 1)
    (λ d. record { by = λ f q. rw (c, d) refl })
    (λ d. pick (nat_lt 1 v.r.r8)
    (λ e. record { by = λ f q. rw (c, d, e) refl })
    (λ e. let i : InCells v = record { some = c; no_video = d; no_registers = e } in
    leads begin_ends
    (pick (pieces.is_marked v)
    (λ m. rest_is (begins_in_cells v true i m) (part_then begin_ends 10 0 6 (marked_part v i m) (marked_rest (marked v))))
    (λ m. rest_is (begins_in_cells v false i m) (part_then begin_ends 9 0 7 (unmarked_part v i m) (unmarked_rest (marked v))))))))

pub set_source : (v : View) → Leads (COPYVC ∷ []) v SETR (pieces.set_source v)
set_source v = record { by = λ f q. refl }

abbrev target_ends : List ℕ
target_ends = COPYVV ∷ COPYCV ∷ COPYGV ∷ []

abbrev for_writing : View → View
for_writing v = record v { r = record v.r { r4 = sum_of Word (pieces.video_at v.r.r7) 0x4000 } }

target_written : (v : View) → (v.r.r5 == 1) ≡ false → Part target_ends 6 v SETW (for_writing v) SETWA
target_written v c = record { by = λ f. rw c refl }

target_cells : (v : View) → (v.r.r5 == 0) ≡ true →
    Rest target_ends 6 10 v SETWA (exit 11 COPYCV (pieces.from_cells (record v { vdp = with_video_address v.r.r4 v.vdp })))
target_cells v c = record { by = λ f. rw c refl }

target_grom : (v : View) → (v.r.r5 == 0) ≡ false → Rest target_ends 6 10 v SETWA (exit 10 COPYGV (record v { vdp = with_video_address v.r.r4 v.vdp }))
target_grom v c = record { by = λ f. rw c refl }

pub set_target : (v : View) → Leads target_ends v SETW (pieces.set_target v)
set_target v =
    pick (v.r.r5 == 1)
    (λ c. record { by = λ f q. rw c refl })
    (λ c. leads target_ends (pick (v.r.r5 == 0)
    (λ d. rest_is (rw (c, d, pieces.set_target) refl) (part_then target_ends 6 0 10 (target_written v c) (target_cells (for_writing v) d)))
    (λ d. rest_is (rw (c, d, pieces.set_target) refl) (part_then target_ends 6 0 10 (target_written v c) (target_grom (for_writing v) d)))))

-- ---- a byte on its way

cell_at : (pointer bytes : ℕ) → Points pointer bytes → (pointer ≡ 0x8300 + (pointer - 0x8300)) × (pointer - 0x8300 < 194)
cell_at pointer bytes p =
    let from = p.from in
    let within = p.within in
    let some = p.some in
    (omega arith, omega arith)

abbrev is_last : View → Bool
is_last v = difference_of Word v.r.r12 1 == 0

pub copy_cell : (v : View) → MayGo CellsToCells v → Leads (COPYCC ∷ COPYE ∷ []) v COPYCC (pieces.copy_on CellsToCells v)
copy_cell v m = record {
  by = λ f q.
      let s = let h = cell_at v.r.r2 v.r.r12 m.0 in spot_cell v.r.r2 (v.r.r2 - 0x8300) h.0 h.1 in
      let t = let h = cell_at v.r.r7 v.r.r12 m.1 in spot_cell v.r.r7 (v.r.r7 - 0x8300) h.0 h.1 in
      pick (is_last v) (λ c. rw (s, t, c) refl) (λ c. rw (s, t, c) refl);
}

pub copy_video : (v : View) → MayGo VideoToCells v → Leads (COPYVC ∷ COPYE ∷ []) v COPYVC (pieces.copy_on VideoToCells v)
copy_video v m = record {
  by = λ f q.
      let t = let h = cell_at v.r.r7 v.r.r12 m in spot_cell v.r.r7 (v.r.r7 - 0x8300) h.0 h.1 in
      pick (is_last v) (λ c. rw (t, c) refl) (λ c. rw (t, c) refl);
}

pub copy_grom : (v : View) → MayGo GromToCells v → Leads (COPYGC ∷ COPYE ∷ []) v COPYGC (pieces.copy_on GromToCells v)
copy_grom v m = record {
  by = λ f q.
      let t = let h = cell_at v.r.r7 v.r.r12 m in spot_cell v.r.r7 (v.r.r7 - 0x8300) h.0 h.1 in
      pick (is_last v) (λ c. rw (t, c) refl) (λ c. rw (t, c) refl);
}

pub copy_cell_to_video : (v : View) → MayGo CellsToVideo v → Leads (COPYCV ∷ COPYE ∷ []) v COPYCV (pieces.copy_on CellsToVideo v)
copy_cell_to_video v m = record {
  by = λ f q.
      let s = let h = cell_at v.r.r2 v.r.r12 m in spot_cell v.r.r2 (v.r.r2 - 0x8300) h.0 h.1 in
      pick (is_last v) (λ c. rw (s, c) refl) (λ c. rw (s, c) refl);
}

pub copy_grom_to_video : (v : View) → Leads (COPYGV ∷ COPYE ∷ []) v COPYGV (pieces.copy_on GromToVideo v)
copy_grom_to_video v = record { by = λ f q. pick (is_last v) (λ c. rw c refl) (λ c. rw c refl) }

abbrev video_ends : List ℕ
video_ends = COPYVV ∷ COPYE ∷ []

-- COPYVV, up to COPYVA: the byte is at the target
abbrev at_target : View → View
at_target v = record v { r = record v.r { r4 = pieces.byte_kept v }; vdp = pieces.video_moved v }

byte_gone : (v : View) → Part video_ends 6 v COPYVV (at_target v) COPYVA
byte_gone v = record { by = λ f. refl }

-- from COPYVA on, to the next byte or to COPYE
abbrev after_byte : View → Exit
after_byte v =
    exit (13 + one_if (is_last v)) (if is_last v then COPYE else COPYVV) (record v {
      r = record v.r {
        r2 = pieces.reading_word (sum_of Word v.r.r2 1);
        r7 = pieces.writing_word (sum_of Word v.r.r7 1);
        r12 = difference_of Word v.r.r12 1;
      };
    })

byte_counted : (v : View) → Rest video_ends 6 10 v COPYVA (after_byte v)
byte_counted v = record { by = λ f. pick (is_last v) (λ c. rw c refl) (λ c. rw c refl) }

pub copy_in_video : (v : View) → Leads video_ends v COPYVV (pieces.copy_on VideoToVideo v)
copy_in_video v = leads video_ends (part_then video_ends 6 0 10 (byte_gone v) (byte_counted (at_target v)))

-- ---- a byte by the routines, and the end

pub next_byte : (v : View) → Leads (LOAD ∷ []) v COPY (pieces.next_byte v)
next_byte v = record { by = λ f q. refl }

pub store_byte : (v : View) → Leads (STORE ∷ []) v COPYS (pieces.store_byte v)
store_byte v = record { by = λ f q. refl }

pub count_byte : (v : View) → Leads (COPY ∷ COPYE ∷ []) v COPYN (pieces.count_byte v)
count_byte v = record { by = λ f q. pick (is_last v) (λ c. rw c refl) (λ c. rw c refl) }

pub leave_copy : (v : View) → Leads (SHOW ∷ RESUME ∷ []) v COPYE (pieces.leave_copy v)
leave_copy v = record { by = λ f q. pick (v.r.r5 == 2) (λ c. rw c refl) (λ c. rw c refl) }
