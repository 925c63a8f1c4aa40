-- The runs of the pieces on the view.
use Rattle.std.proofs.Common.{[], ℕ, ◌∷◌, ap, refl}
pub use Rattle.sim_rows.proofs.Common.{piece}
use Rattle.sim_rows.proofs.Common.{absolute_flags, absolute_of, ABSV, ADDV, ANDV, Answer, CLRV, DECTV, difference_flags, difference_of, Gives, INCTV, INVV}
use Rattle.sim_rows.proofs.Common.{Leads, negation_flags, negation_of, NEGV, ORV, SHOW, STATB, STO, STORE, STV, SUBV, sum_flags, sum_of, View, Word, WORKSPACE}
use Rattle.sim_rows.proofs.Common.{XORV}
use Rattle.sim_alu.proofs.Status.{kept_is}
use Rattle.sim_alu.specs.Pieces as pieces

pub take_source : (v : View) → Leads (STO ∷ []) v STV (pieces.take_source v)
take_source v = record { by = λ f q. refl }

pub keep_common_ones : (v : View) → Leads (STO ∷ []) v ANDV (pieces.keep_common_ones v)
keep_common_ones v = record { by = λ f q. refl }

pub set_ones : (v : View) → Leads (STO ∷ []) v ORV (pieces.set_ones v)
set_ones v = record { by = λ f q. refl }

pub exclude_ones : (v : View) → Leads (STO ∷ []) v XORV (pieces.exclude_ones v)
exclude_ones v = record { by = λ f q. refl }

pub invert : (v : View) → Leads (STO ∷ []) v INVV (pieces.invert v)
invert v = record { by = λ f q. refl }

pub clear : (v : View) → Leads (STO ∷ []) v CLRV (pieces.clear v)
clear v = record { by = λ f q. refl }

pub store_status : (v : View) → Leads (SHOW ∷ []) v STATB (pieces.store_status v)
store_status v = record { by = λ f q. refl }

-- how a piece ends that keeps the status: the count, the view and the addresses, by the word of register 12
abbrev ends : ℕ → ℕ → View → ℕ → Answer (ℕ × View × ℕ × ℕ)
ends count result v word = Gives (count, record v { r = record v.r { r9 = result; r11 = STATB; r12 = word } }, STORE, WORKSPACE)

pub add_source : (v : View) → Leads (STORE ∷ []) v ADDV (pieces.add_source v)
add_source v = record { by = λ f q. ap (ends 5 (sum_of Word v.r.r9 v.r.r6) v) (kept_is (sum_flags Word v.r.r9 v.r.r6) f q) }

pub subtract_source : (v : View) → Leads (STORE ∷ []) v SUBV (pieces.subtract_source v)
subtract_source v = record { by = λ f q. ap (ends 5 (difference_of Word v.r.r9 v.r.r6) v) (kept_is (difference_flags Word v.r.r9 v.r.r6) f q) }

pub make_absolute : (v : View) → Leads (STORE ∷ []) v ABSV (pieces.make_absolute v)
make_absolute v = record { by = λ f q. ap (ends 5 (absolute_of Word v.r.r9) v) (kept_is (absolute_flags Word v.r.r9) f q) }

pub negate : (v : View) → Leads (STORE ∷ []) v NEGV (pieces.negate v)
negate v = record { by = λ f q. ap (ends 4 (negation_of Word v.r.r9) v) (kept_is (negation_flags Word v.r.r9) f q) }

pub add_twice : (v : View) → Leads (STORE ∷ []) v INCTV (pieces.add_twice v)
add_twice v = record {
  by = λ f q.
      let two = sum_of Word v.r.r6 v.r.r6 in
      ap (ends 6 (sum_of Word v.r.r9 two) (pieces.doubled v)) (kept_is (sum_flags Word v.r.r9 two) f q);
}

pub subtract_twice : (v : View) → Leads (STORE ∷ []) v DECTV (pieces.subtract_twice v)
subtract_twice v = record {
  by = λ f q.
      let two = sum_of Word v.r.r6 v.r.r6 in
      ap (ends 6 (difference_of Word v.r.r9 two) (pieces.doubled v)) (kept_is (difference_flags Word v.r.r9 two) f q);
}
