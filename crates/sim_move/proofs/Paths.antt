-- The runs of the pieces on the view.
use Rattle.std.proofs.Common.{[], ◌∷◌, false, nat_lt, refl, true}
pub use Rattle.sim_rows.proofs.Common.{is_view, piece}
use Rattle.sim_rows.proofs.Common.{ADDR, GOMOVE, INDEX, IsView, last_out, Leads, leads, LOAD, MOVEA, MOVEB, MOVED, MOVEK, MOVEL, MOVEN, MOVER, MOVES, MOVEW}
use Rattle.sim_rows.proofs.Common.{MOVEX, not_above, not_limit, Part, part_then, past, pick, Rest, SEEK, SRL, STREAM, sum_of, View, WHERE, Word}
use Rattle.sim_move.proofs.Numbers.{byte_down}
use Rattle.sim_move.specs.Pieces as pieces
use Rattle.sim_rows.specs.native_interp.declared.addresses.TheConstants.{MOVERC}
use Rattle.sim_rows.proofs.Facts.{from_limit}

pub request_length : (v : View) → Leads (ADDR ∷ MOVEN ∷ []) v GOMOVE (pieces.request_length v)
request_length v = record { by = λ f q. pick (last_out SRL v.r.r0 1) (λ c. rw c refl) (λ c. rw c refl) }

pub load_length : (v : View) → Leads (LOAD ∷ []) v MOVEN (pieces.load_length v)
load_length v = record { by = λ f q. refl }

pub keep_length : (v : View) → Leads (ADDR ∷ MOVER ∷ []) v MOVEL (pieces.keep_length v)
keep_length v = record {
  by = λ f q.
      pick (nat_lt 0x4000 v.r.r6)
      (λ c. rw (c, not_limit 0x4000 v.r.r6 c) refl)
      (λ c. pick (nat_lt v.r.r0 0x38)
      (λ d. rw (c, from_limit 0x38 v.r.r0 true d, d) refl)
      (λ d. rw (c, from_limit 0x38 v.r.r0 false d, d) refl));
}

pub keep_target : (v : View) → Leads (ADDR ∷ MOVES ∷ []) v MOVED (pieces.keep_target v)
keep_target v = record {
  by = λ f q.
      pick (nat_lt v.r.r0 0x34)
      (λ c. rw (not_above 0x34 v.r.r0 true c, c) refl)
      (λ c. rw (not_above 0x34 v.r.r0 false c, c) refl);
}

-- MOVER, part by part
abbrev with_number : View → View
with_number v = record v { r = record v.r { r7 = v.grom.fetched }; grom = past v.grom }

number_read : (v : View) → IsView v → Part (MOVES ∷ []) 3 v MOVER (with_number v) MOVERC
number_read v i = record { by = λ f. rw (byte_down v.grom.fetched i.grom.fetched) refl }

registers_checked : (v : View) → Rest (MOVES ∷ []) 3 13 (with_number v) MOVERC (pieces.check_registers v)
registers_checked v = record {
  by = λ f.
      pick (nat_lt 8 (sum_of Word v.grom.fetched v.r.r6))
      (λ c. rw (c, not_limit 8 (sum_of Word v.grom.fetched v.r.r6) c) refl)
      (λ c. rw c refl);
}

pub check_registers : (v : View) → IsView v → Leads (MOVES ∷ []) v MOVER (pieces.check_registers v)
check_registers v i = leads (MOVES ∷ []) (part_then (MOVES ∷ []) 3 0 13 (number_read v i) (registers_checked v))

pub request_source : (v : View) → Leads (STREAM ∷ []) v MOVES (pieces.request_source v)
request_source v = record { by = λ f q. refl }

pub request_index : (v : View) → Leads (INDEX ∷ []) v MOVEA (pieces.request_index v)
request_index v = record { by = λ f q. refl }

pub request_next : (v : View) → Leads (WHERE ∷ []) v MOVEX (pieces.request_next v)
request_next v = record { by = λ f q. refl }

pub seek_source : (v : View) → Leads (SEEK ∷ []) v MOVEW (pieces.seek_source v)
seek_source v = record { by = λ f q. refl }

pub turn_to_grom : (v : View) → Leads (MOVEB ∷ []) v MOVEK (pieces.turn_to_grom v)
turn_to_grom v = record { by = λ f q. refl }
