-- The runs of the pieces on the view.
use Rattle.std.proofs.Common.{[], ℕ, ◌%◌, ◌<◌, ◌==◌, ◌∷◌, ◌≡◌, arith, refl}
use Rattle.std.proofs.lemmas.Bool.{ne_eqb}
pub use Rattle.sim_rows.proofs.Common.{piece}
use Rattle.sim_rows.proofs.Common.{COUNT, count_in, Leads, pick, SLLB, SLLV, SRAB, SRAV, SRCB, SRCV, SRLB, SRLV, STO, swapped, View}
use Rattle.sim_shift.specs.Pieces.{low_four}
use Rattle.sim_shift.specs.Pieces as pieces

pub request_arithmetic_count : (v : View) → Leads (COUNT ∷ []) v SRAV (pieces.request_arithmetic_count v)
request_arithmetic_count v = record { by = λ f q. refl }

pub request_left_count : (v : View) → Leads (COUNT ∷ []) v SLLV (pieces.request_left_count v)
request_left_count v = record { by = λ f q. refl }

pub request_right_count : (v : View) → Leads (COUNT ∷ []) v SRLV (pieces.request_right_count v)
request_right_count v = record { by = λ f q. refl }

pub request_turn_count : (v : View) → Leads (COUNT ∷ []) v SRCV (pieces.request_turn_count v)
request_turn_count v = record { by = λ f q. refl }

pub take_count : (v : View) → Leads (STO ∷ []) v COUNT (pieces.take_count v)
take_count v = record {
  by = λ f q.
      pick (v.r.r3 == 1)
      (λ c. pick (low_four (swapped v.r.r6) == 0)
      (λ d. rw (c, d) refl)
      (λ d. rw (c, d) refl))
      (λ c. pick (low_four v.r.r6 == 0)
      (λ d. rw (c, d) refl)
      (λ d. rw (c, d) refl));
}

-- The processor takes a count from 1 to 15 as it is in register 0.
count_is : (word : ℕ) → 0 < word → word < 16 → count_in word ≡ word
count_is word some few = let low : word % 16 ≡ word = omega arith in rw (ne_eqb (word % 16) 0 (λ e. omega arith), count_in) low

pub shift_arithmetic : (v : View) → 0 < v.r.r0 → v.r.r0 < 16 → Leads (STO ∷ []) v SRAB (pieces.shift_arithmetic v)
shift_arithmetic v some few = record { by = λ f q. rw (count_is v.r.r0 some few) refl }

pub shift_left : (v : View) → 0 < v.r.r0 → v.r.r0 < 16 → Leads (STO ∷ []) v SLLB (pieces.shift_left v)
shift_left v some few = record { by = λ f q. rw (count_is v.r.r0 some few) refl }

pub shift_right : (v : View) → 0 < v.r.r0 → v.r.r0 < 16 → Leads (STO ∷ []) v SRLB (pieces.shift_right v)
shift_right v some few = record { by = λ f q. rw (count_is v.r.r0 some few) refl }

pub turn_right : (v : View) → 0 < v.r.r0 → v.r.r0 < 16 → Leads (STO ∷ []) v SRCB (pieces.turn_right v)
turn_right v some few = record { by = λ f q. pick (v.r.r3 == 1) (λ c. rw (c, count_is v.r.r0 some few) refl) (λ c. rw (c, count_is v.r.r0 some few) refl) }
