-- The runs of the pieces on the view.
use Rattle.std.proofs.Common.{◌+◌, ◌<◌, ◌==◌, ◌∷◌, ◌≡◌, ◌≤◌, [], arith, false, if◌then◌else◌, List, nat_lt, refl}
use Rattle.std.proofs.Common.{slice_index, slice_set, true, ℕ}
use Rattle.sim_rows.proofs.Common.{at_most, byte_is, CALLN, CALLS, difference_of, exit, FETCH, FETCHA, FETCHB, FETCHD}
use Rattle.sim_rows.proofs.Common.{FETCHK, FETCHN, FETCHP, FETCHR, FETCHS, FETCHV, GOCALL, GORTN, GOTO, high, high-join}
use Rattle.sim_rows.proofs.Common.{IsView, join, join-bytes, Leads, leads, LOAD, low, not_above, not_limit, Part}
use Rattle.sim_rows.proofs.Common.{part_then, past, pick, plus, PUSHV, Rest, rest_is, SEEK, SHOW, spot_cell, STO, STORE}
use Rattle.sim_rows.proofs.Common.{sum_of, TAKE, View, WHERE, Word, word_in}
use Rattle.sim_rows.specs.native_interp.declared.addresses.TheConstants.{CALLT, RTNW}
use Rattle.sim_stack.proofs.Common.{at_first, call_offset, if_room, offset_of, pointer_at, return_offset}
pub use Rattle.sim_rows.proofs.Common.{is_view, piece}
use Rattle.sim_stack.specs.Pieces as pieces

-- RTN, part by part
abbrev with_top : View → View
with_top v = record v { r = record v.r { r2 = return_offset v } }

abbrev return_ends : List ℕ
return_ends = TAKE ∷ GOTO ∷ []

return_rejected : (v : View) → nat_lt 0xC0 (return_offset v) ≡ true → Rest return_ends 0 16 v GORTN (pieces.full 7 (with_top v))
return_rejected v c = record { by = λ f. rw (c, not_limit 0xC0 (return_offset v) c) refl }

return_near : (v : View) → nat_lt 0xC0 (return_offset v) ≡ false → Part return_ends 4 v GORTN (with_top v) RTNW
return_near v c = record { by = λ f. rw c refl }

abbrev taken : View → View
taken v =
    let less = difference_of Word v.r.r2 2 in
    record v { r = record v.r { r2 = less; r6 = word_in v.cells v.r.r2 }; cells = slice_set v.cells 0x73 (low less) }

return_taken : (v : View) → ((k : ℕ) → slice_index v.cells k < 256) → v.r.r2 ≤ 0xC0 →
    Rest return_ends 4 12 v RTNW (if v.r.r0 == 0 then exit 10 TAKE (taken v) else exit 11 GOTO (taken v))
return_taken v fits near = record {
  by = λ f.
      let first = spot_cell (plus 0x8300 v.r.r2) v.r.r2 (omega arith) (omega arith) in
      let second = spot_cell (plus 0x8301 v.r.r2) (v.r.r2 + 1) (omega arith) (omega arith) in
      let byte = byte_is (slice_index v.cells (v.r.r2 + 1)) (fits (v.r.r2 + 1)) in
      pick (v.r.r0 == 0)
      (λ d. rw (first, second, byte, high-join (slice_index v.cells v.r.r2) v.r.r6, d) refl)
      (λ d. rw (first, second, byte, high-join (slice_index v.cells v.r.r2) v.r.r6, d) refl);
}

pub take_return : (v : View) → IsView v → Leads return_ends v GORTN (pieces.take_return v)
unfolding if_room
take_return v i =
    leads return_ends
    (pick (nat_lt 0xC0 (return_offset v))
    (λ c. rest_is (rw (c, pieces.take_return) refl) (return_rejected v c))
    (λ c. rest_is (rw (c, pieces.take_return) refl) (part_then return_ends 4 0 12 (return_near v c)
    (return_taken (with_top v) i.cells (at_most 0xC0 (return_offset v) c)))))

-- CALL, after its target
abbrev with_target : View → View
with_target v = record v { r = record v.r { r14 = join v.grom.fetched (past v.grom).fetched }; grom = past (past v.grom) }

target_read : (v : View) → IsView v → Part (CALLN ∷ []) 2 v GOCALL (with_target v) CALLT
target_read v i =
    record { by = λ f. rw (byte_is (past v.grom).fetched (i.grom.image.fits v.grom.counter), high-join v.grom.fetched v.r.r14) refl }

abbrev with_grown : View → View
with_grown v = record v { r = record v.r { r7 = call_offset v } }

-- the offset as the instructions make it
abbrev made_offset : View → ℕ
made_offset v = offset_of (sum_of Word (join (slice_index v.cells 0x73) (low v.r.r7)) 0x0200)

pointer_grown : (v : View) → Rest (CALLN ∷ []) 2 14 v CALLT
    (if_room 2 (call_offset v) 10 (with_grown v) (exit 7 CALLN (with_grown v)))
unfolding if_room
pointer_grown v = record {
  by = λ f.
      pick (nat_lt 0xC0 (made_offset v))
      (λ c. rw (c, not_limit 0xC0 (made_offset v) c) refl)
      (λ c. rw c refl);
}

pub read_call_target : (v : View) → IsView v → Leads (CALLN ∷ []) v GOCALL (pieces.read_call_target v)
read_call_target v i = leads (CALLN ∷ []) (part_then (CALLN ∷ []) 2 0 14 (target_read v i) (pointer_grown (with_target v)))

pub find_next : (v : View) → Leads (CALLS ∷ []) v CALLN (pieces.find_next v)
find_next v = record {
  by = λ f q.
      let n = v.grom.counter in
      pick (at_first n)
      (λ c. rw (high-join (low n) n, byte_is (low n) (omega arith), high-join (high n) v.r.r9, join-bytes n, c) refl)
      (λ c. rw (high-join (low n) n, byte_is (low n) (omega arith), high-join (high n) v.r.r9, join-bytes n, c) refl);
}

pub store_next : (v : View) → v.r.r7 ≤ 0xC0 → Leads (SHOW ∷ []) v CALLS (pieces.store_next v)
store_next v near = record {
  by = λ f q.
      let first = spot_cell (plus 0x8300 v.r.r7) v.r.r7 (omega arith) (omega arith) in
      let second = spot_cell (plus 0x8301 v.r.r7) (v.r.r7 + 1) (omega arith) (omega arith) in
      pick (nat_lt 0x7D v.r.r7)
      (λ c. rw (first, second, c, not_limit 0x7D v.r.r7 c) refl)
      (λ c. pick (nat_lt v.r.r7 0x7C)
      (λ d. rw (first, second, c, d, not_above 0x7C v.r.r7 true d) refl)
      (λ d. rw (first, second, c, d, not_above 0x7C v.r.r7 false d) refl));
}

pub push_pointer : (v : View) → Leads (STO ∷ []) v PUSHV (pieces.push_pointer v)
unfolding if_room
push_pointer v = record {
  by = λ f q.
      pick (nat_lt 0xC1 (offset_of (sum_of Word (pointer_at 0x72 v) 0x0100)))
      (λ c. rw (c, not_limit 0xC1 (offset_of (sum_of Word (pointer_at 0x72 v) 0x0100)) c) refl)
      (λ c. rw c refl);
}

pub keep_place : (v : View) → Leads (WHERE ∷ []) v FETCHV (pieces.keep_place v)
unfolding if_room
keep_place v = record {
  by = λ f q.
      pick (nat_lt 0xC0 (return_offset v))
      (λ c. rw (c, not_limit 0xC0 (return_offset v) c) refl)
      (λ c. rw c refl);
}

pub keep_next : (v : View) → Leads (SEEK ∷ []) v FETCHN (pieces.keep_next v)
keep_next v = record { by = λ f q. refl }

pub request_stacked : (v : View) → Leads (LOAD ∷ []) v FETCHP (pieces.request_stacked v)
request_stacked v = record { by = λ f q. refl }

pub seek_stacked : (v : View) → Leads (SEEK ∷ []) v FETCHA (pieces.seek_stacked v)
seek_stacked v = record { by = λ f q. refl }

pub request_byte : (v : View) → Leads (FETCH ∷ []) v FETCHR (pieces.request_byte v)
request_byte v = record { by = λ f q. refl }

pub keep_byte : (v : View) → Leads (WHERE ∷ []) v FETCHK (pieces.keep_byte v)
keep_byte v = record { by = λ f q. refl }

pub keep_stacked_next : (v : View) → Leads (SEEK ∷ []) v FETCHB (pieces.keep_stacked_next v)
keep_stacked_next v = record { by = λ f q. refl }

pub store_stacked : (v : View) → Leads (STORE ∷ []) v FETCHS (pieces.store_stacked v)
store_stacked v = record { by = λ f q. refl }

pub store_fetched : (v : View) → Leads (STORE ∷ []) v FETCHD (pieces.store_fetched v)
store_fetched v = record { by = λ f q. refl }
