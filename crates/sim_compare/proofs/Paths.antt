-- The runs of the pieces on the view.
use Rattle.std.proofs.Common.{[], ℕ, ◌==◌, ◌∷◌, bit_and, false, int_lt, List, nat_lt, refl, slice_index, true}
pub use Rattle.sim_rows.proofs.Common.{piece}
use Rattle.sim_rows.proofs.Common.{CEQV, CFALSE, CGEV, CGTV, CHEV, CHV, CLOGV, CTRUE, CZV, GOCARY, GOGT, GOH, GOOVF, join, last_out, Leads, low, pick, signed}
use Rattle.sim_rows.proofs.Common.{SLA, View, Word}
use Rattle.sim_rows.proofs.Facts.{from_limit}
use Rattle.sim_compare.proofs.Numbers.{above_is_not}
use Rattle.sim_compare.specs.Pieces as pieces

abbrev ends : List ℕ
ends = CTRUE ∷ CFALSE ∷ []

pub compare_higher : (v : View) → Leads ends v CHV (pieces.compare_higher v)
compare_higher v = record { by = λ f q. pick (nat_lt v.r.r6 v.r.r9) (λ c. rw (c, above_is_not v.r.r6 v.r.r9 c) refl) (λ c. rw c refl) }

pub compare_higher_or_equal : (v : View) → Leads ends v CHEV (pieces.compare_higher_or_equal v)
compare_higher_or_equal v = record {
  by = λ f q.
      pick (nat_lt v.r.r9 v.r.r6)
      (λ c. rw (from_limit v.r.r6 v.r.r9 true c, c) refl)
      (λ c. rw (from_limit v.r.r6 v.r.r9 false c, c) refl);
}

pub compare_greater : (v : View) → Leads ends v CGTV (pieces.compare_greater v)
compare_greater v = record { by = λ f q. pick (int_lt (signed Word v.r.r6) (signed Word v.r.r9)) (λ c. rw c refl) (λ c. rw c refl) }

pub compare_greater_or_equal : (v : View) → Leads ends v CGEV (pieces.compare_greater_or_equal v)
compare_greater_or_equal v = record { by = λ f q. pick (int_lt (signed Word v.r.r9) (signed Word v.r.r6)) (λ c. rw c refl) (λ c. rw c refl) }

pub compare_equal : (v : View) → Leads ends v CEQV (pieces.compare_equal v)
compare_equal v = record { by = λ f q. pick (v.r.r9 == v.r.r6) (λ c. rw c refl) (λ c. rw c refl) }

pub compare_ones : (v : View) → Leads ends v CLOGV (pieces.compare_ones v)
compare_ones v = record { by = λ f q. pick (bit_and v.r.r6 v.r.r9 == 0) (λ c. rw c refl) (λ c. rw c refl) }

pub compare_with_zero : (v : View) → Leads ends v CZV (pieces.compare_with_zero v)
compare_with_zero v = record { by = λ f q. pick (v.r.r9 == 0) (λ c. rw c refl) (λ c. rw c refl) }

-- the status, above what register 4 has below it
abbrev status_word : View → ℕ
status_word v = join (slice_index v.cells 0x7C) (low v.r.r4)

pub test_higher : (v : View) → Leads ends v GOH (pieces.test_higher v)
test_higher v = record { by = λ f q. pick (last_out SLA (status_word v) 1) (λ c. rw c refl) (λ c. rw c refl) }

pub test_greater : (v : View) → Leads ends v GOGT (pieces.test_greater v)
test_greater v = record { by = λ f q. pick (last_out SLA (status_word v) 2) (λ c. rw c refl) (λ c. rw c refl) }

pub test_carry : (v : View) → Leads ends v GOCARY (pieces.test_carry v)
test_carry v = record { by = λ f q. pick (last_out SLA (status_word v) 4) (λ c. rw c refl) (λ c. rw c refl) }

pub test_overflow : (v : View) → Leads ends v GOOVF (pieces.test_overflow v)
test_overflow v = record { by = λ f q. pick (last_out SLA (status_word v) 5) (λ c. rw c refl) (λ c. rw c refl) }

pub set_condition : (v : View) → Leads [] v CTRUE (pieces.set_condition v)
set_condition v = record { by = λ f q. refl }

pub clear_condition : (v : View) → Leads [] v CFALSE (pieces.clear_condition v)
clear_condition v = record { by = λ f q. refl }
