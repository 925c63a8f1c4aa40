-- The runs of the pieces on the view.
use Rattle.std.proofs.Common.{[], ◌<◌, ◌==◌, ◌∷◌, ◌≤◌, false, nat_lt, refl, true}
use Rattle.std.proofs.lemmas.Bool.{lt-ltb}
pub use Rattle.sim_rows.proofs.Common.{is_view, piece}
use Rattle.sim_rows.proofs.Common.{DIVBY, DIVE, DIVL, DIVQ, DIVS, DIVV, DIVW, IsView, Leads, LOAD, MULB, MULV, OVER, pick, shifted, SHOW, SRL, STO, STORE, View}
use Rattle.sim_rows.proofs.Facts.{from_limit}
use Rattle.sim_muldiv.proofs.Numbers.{division_is, some_divisor}
use Rattle.sim_muldiv.specs.Pieces as pieces

pub multiply : (v : View) → Leads (STO ∷ STORE ∷ []) v MULV (pieces.multiply v)
multiply v = record { by = λ f q. pick (v.r.r3 == 1) (λ c. rw c refl) (λ c. rw c refl) }

pub low_product : (v : View) → Leads (STO ∷ []) v MULB (pieces.low_product v)
low_product v = record { by = λ f q. refl }

pub compare_divisor : (v : View) → Leads (OVER ∷ DIVBY ∷ DIVW ∷ []) v DIVV (pieces.compare_divisor v)
compare_divisor v = record {
  by = λ f q.
      pick (nat_lt v.r.r9 v.r.r6)
      (λ c. pick (v.r.r3 == 1)
      (λ d. rw (from_limit v.r.r6 v.r.r9 true c, c, d) refl)
      (λ d. rw (from_limit v.r.r6 v.r.r9 true c, c, d) refl))
      (λ c. rw (from_limit v.r.r6 v.r.r9 false c, c) refl);
}

pub divide_bytes : (v : View) → IsView v → 256 ≤ v.r.r6 → Leads (DIVS ∷ []) v DIVBY (pieces.divide_bytes v)
divide_bytes v i l = record { by = λ f q. rw (division_is 0 v.r.r9 (shifted SRL v.r.r6 8) (some_divisor v.r.r6 l (i.r 6))) refl }

pub load_low_word : (v : View) → Leads (LOAD ∷ []) v DIVW (pieces.load_low_word v)
load_low_word v = record { by = λ f q. refl }

pub divide_words : (v : View) → v.r.r9 < v.r.r12 → Leads (STORE ∷ []) v DIVL (pieces.divide_words v)
divide_words v l = record { by = λ f q. rw (division_is v.r.r9 v.r.r6 v.r.r12 (lt-ltb v.r.r9 v.r.r12 l)) refl }

pub take_remainder : (v : View) → Leads (DIVS ∷ []) v DIVQ (pieces.take_remainder v)
take_remainder v = record { by = λ f q. refl }

pub store_last : (v : View) → Leads (STORE ∷ []) v DIVS (pieces.store_last v)
store_last v = record { by = λ f q. refl }

pub clear_overflow : (v : View) → Leads (SHOW ∷ []) v DIVE (pieces.clear_overflow v)
clear_overflow v = record { by = λ f q. refl }

pub set_overflow : (v : View) → Leads [] v OVER (pieces.set_overflow v)
set_overflow v = record { by = λ f q. refl }
