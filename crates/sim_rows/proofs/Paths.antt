-- The runs of the pieces on the view.
use Rattle.std.proofs.Common.{[], ℕ, ◌+◌, ◌<◌, ◌==◌, ◌∷◌, ◌≡◌, ◌≤◌, arith, false, nat_lt, refl, slice_index, true}
use Rattle.std.proofs.lemmas.Bool.{eqb-false, ne_eqb}
use Rattle.sim_view.proofs.Common.{high-join, IsView, join-bytes, Leads, leads, Part, part_then, pick, Rest}
use Rattle.sim_rows.specs.Prelude.{ADDR, difference_of, even, Exit, exit, GO, GromState, GSTEP, high, INTERP, join, last_out, LOAD, low, OPVAL, past, ROW}
use Rattle.sim_rows.specs.Prelude.{with_grom_address, shifted, SHOW, SLA, SRL, STO, STORE, STREAM, sum_of, View, WHERE, WIDE, Word}
use Rattle.sim_operands.proofs.Facts.{byte_is, down}
use Rattle.sim_operands.proofs.Paths.{rest_is}
use Rattle.sim_rows.proofs.Facts.{from_limit, spot_rows, spot_table}
use Rattle.sim_rows.specs.Pieces as pieces
use Rattle.sim_view.specs.native_interp.declared.addresses.TheConstants.{GBACK, GCODE, OPSDST, OPSTWO, OPSVAL, STDST, STROW, WIDDST, WIDVAL}
use Rattle.sim_view.specs.base_defs.declared.size.TheConstants.{GROM_SIZE}

pub request_first : (v : View) → Leads (ADDR ∷ []) v ROW (pieces.request_first v)
request_first v = record { by = λ f q. refl }

pub request_stored : (v : View) → Leads (ADDR ∷ []) v STROW (pieces.request_stored v)
request_stored v = record { by = λ f q. refl }

pub request_wide : (v : View) → Leads (ADDR ∷ []) v WIDE (pieces.request_wide v)
request_wide v = record { by = λ f q. refl }

pub load_first : (v : View) → Leads (LOAD ∷ []) v OPSDST (pieces.load_first v)
load_first v = record { by = λ f q. refl }

pub load_wide : (v : View) → Leads (LOAD ∷ []) v WIDDST (pieces.load_wide v)
load_wide v = record { by = λ f q. refl }

pub keep_stored : (v : View) → Leads (OPSTWO ∷ []) v STDST (pieces.keep_stored v)
keep_stored v = record { by = λ f q. refl }

pub keep_first : (v : View) → Leads (GO ∷ OPSTWO ∷ []) v OPSVAL (pieces.keep_first v)
keep_first v = record {
  by = λ f q.
      pick (nat_lt v.r.r0 0xA0)
      (λ c. pick (v.r.r3 == 1)
      (λ d. rw (from_limit 0xA0 v.r.r0 true c, c, d) refl)
      (λ d. rw (from_limit 0xA0 v.r.r0 true c, c, d) refl))
      (λ c. rw (from_limit 0xA0 v.r.r0 false c, c) refl);
}

pub keep_wide : (v : View) → Leads (OPSTWO ∷ []) v WIDVAL (pieces.keep_wide v)
keep_wide v = record { by = λ f q. refl }

pub request_second : (v : View) → Leads (STREAM ∷ ADDR ∷ []) v OPSTWO (pieces.request_second v)
request_second v = record { by = λ f q. pick (last_out SRL v.r.r0 2) (λ c. rw c refl) (λ c. rw c refl) }

pub load_second : (v : View) → Leads (LOAD ∷ []) v OPVAL (pieces.load_second v)
load_second v = record { by = λ f q. refl }

pub store_result : (v : View) → Leads (STORE ∷ []) v STO (pieces.store_result v)
store_result v = record { by = λ f q. refl }

pub go_to_row : (v : View) → 0x80 ≤ v.r.r0 → v.r.r0 < 0xEC → Leads [] v GO (pieces.go_to_row v)
go_to_row v l h = record { by = λ f q. rw (spot_rows v.r.r0 l h) refl }

pub show : (v : View) → Leads (STORE ∷ []) v SHOW (pieces.show v)
show v = record { by = λ f q. pick (v.r.r13 == 0) (λ c. rw c refl) (λ c. rw c refl) }

-- GSTEP, after the two reads of the counter and its test
abbrev at_back : View → ℕ → ℕ → View
at_back v scratch word =
    record v { r = record v.r { r1 = word; r4 = scratch }; grom = pieces.read_once (pieces.read_once v.grom) }

abbrev low_bits : View → ℕ
low_bits v = shifted SLA v.grom.counter 3

step_first : (v : View) → (low v.grom.counter == 0) ≡ true → pieces.at_first v.grom.counter ≡ true →
    Part [] 7 v GSTEP (at_back v (low_bits v) (sum_of Word v.grom.counter GROM_SIZE)) GBACK
step_first v z c = record {
  by = λ f.
      let n = v.grom.counter in
      rw (high-join (low n) n, byte_is (low n) (omega arith), high-join (high n) v.r.r1, join-bytes n, z, c) refl;
}

step_next : (v : View) → (low v.grom.counter == 0) ≡ true → pieces.at_first v.grom.counter ≡ false →
    Part [] 6 v GSTEP (at_back v (low_bits v) v.grom.counter) GBACK
step_next v z c = record {
  by = λ f.
      let n = v.grom.counter in
      rw (high-join (low n) n, byte_is (low n) (omega arith), high-join (high n) v.r.r1, join-bytes n, z, c) refl;
}

step_short : (v : View) → (low v.grom.counter == 0) ≡ false → Part [] 3 v GSTEP (at_back v v.r.r4 v.grom.counter) GBACK
step_short v z = record {
  by = λ f.
      let n = v.grom.counter in
      rw (high-join (low n) n, byte_is (low n) (omega arith), high-join (high n) v.r.r1, join-bytes n, z) refl;
}

-- the low 13 bits are not 0 where the low byte is not
not_first : (counter : ℕ) → (low counter == 0) ≡ false → pieces.at_first counter ≡ false
not_first counter z = let h = eqb-false (low counter) 0 z in ne_eqb (shifted SLA counter 3) 0 (λ e. h (omega arith))

-- the address after is set again, and the byte there is read
abbrev set_again : View → ℕ → GromState
set_again v word = with_grom_address (difference_of Word word 1) (pieces.read_once (pieces.read_once v.grom))

abbrev dispatched : ℕ → View → ℕ → Exit
dispatched count v word =
    let set = set_again v word in
    let entry = slice_index INTERP (pieces.first_entry + set.fetched) in
    exit count (even entry) (record v { r = record v.r { r0 = set.fetched; r1 = difference_of Word word 1; r4 = entry }; grom = past set })

code_fits : (v : View) → IsView v → (word : ℕ) → (set_again v word).fetched < 256
code_fits v i word = i.grom.image.fits _

code_down : (v : View) → IsView v → (word : ℕ) → shifted SRL (join (set_again v word).fetched (low v.r.r0)) 8 ≡ (set_again v word).fetched
code_down v i word = down (set_again v word).fetched (low v.r.r0) (code_fits v i word) (omega arith)

abbrev with_code : View → ℕ → ℕ → View
with_code v scratch word =
    let set = set_again v word in
    record v { r = record v.r { r0 = set.fetched; r1 = difference_of Word word 1; r4 = scratch }; grom = past set }

read_code : (v : View) → IsView v → (scratch word : ℕ) → Part [] 5 (at_back v scratch word) GBACK (with_code v scratch word) GCODE
read_code v i scratch word = record { by = λ f. rw (code_down v i word) refl }

-- the first table leads on by a code byte
abbrev led : ℕ → View → Exit
led count u = let entry = slice_index INTERP (pieces.first_entry + u.r.r0) in exit count (even entry) (record u { r = record u.r { r4 = entry } })

lead_first : (u : View) → u.r.r0 < 256 → Rest [] 12 4 u GCODE (led 16 u)
lead_first u h = record { by = λ f. rw (spot_table u.r.r0 h) refl }

lead_next : (u : View) → u.r.r0 < 256 → Rest [] 11 5 u GCODE (led 15 u)
lead_next u h = record { by = λ f. rw (spot_table u.r.r0 h) refl }

lead_short : (u : View) → u.r.r0 < 256 → Rest [] 8 8 u GCODE (led 12 u)
lead_short u h = record { by = λ f. rw (spot_table u.r.r0 h) refl }

back_first : (v : View) → IsView v → (scratch word : ℕ) → Rest [] 7 9 (at_back v scratch word) GBACK (dispatched 16 v word)
back_first v i scratch word = part_then [] 5 7 4 (read_code v i scratch word) (lead_first (with_code v scratch word) (code_fits v i word))

back_next : (v : View) → IsView v → (scratch word : ℕ) → Rest [] 6 10 (at_back v scratch word) GBACK (dispatched 15 v word)
back_next v i scratch word = part_then [] 5 6 5 (read_code v i scratch word) (lead_next (with_code v scratch word) (code_fits v i word))

back_short : (v : View) → IsView v → (scratch word : ℕ) → Rest [] 3 13 (at_back v scratch word) GBACK (dispatched 12 v word)
back_short v i scratch word = part_then [] 5 3 8 (read_code v i scratch word) (lead_short (with_code v scratch word) (code_fits v i word))

pub dispatch : (v : View) → IsView v → Leads [] v GSTEP (pieces.dispatch v)
dispatch v i =
    let n = v.grom.counter in
    leads []
    (pick (low n == 0)
    (λ z. pick (pieces.at_first n)
    (λ c. rest_is {ends = []} (rw (z, c, pieces.dispatch) refl) (part_then [] 7 0 9 (step_first v z c) (back_first v i (low_bits v) (sum_of Word n GROM_SIZE))))
    (λ c. rest_is {ends = []} (rw (z, c, pieces.dispatch) refl) (part_then [] 6 0 10 (step_next v z c) (back_next v i (low_bits v) n))))
    (λ z. rest_is {ends = []} (rw (z, not_first n z, pieces.dispatch) refl) (part_then [] 3 0 13 (step_short v z) (back_short v i v.r.r4 n))))

pub where_next : (v : View) → Leads [] v WHERE (pieces.where_next v)
where_next v = record {
  by = λ f q.
      let n = v.grom.counter in
      pick (pieces.at_first n)
      (λ c. rw (high-join (low n) n, byte_is (low n) (omega arith), high-join (high n) v.r.r6, join-bytes n, c) refl)
      (λ c. rw (high-join (low n) n, byte_is (low n) (omega arith), high-join (high n) v.r.r6, join-bytes n, c) refl);
}
