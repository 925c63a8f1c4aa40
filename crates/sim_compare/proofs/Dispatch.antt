-- The comparisons are rows; the tests are not.
use Rattle.std.proofs.Common.{◌||◌, ◌∙◌, ◌≡◌, Bool, false, Option, refl, Some, subst, sym, true, true≢false}
use Rattle.sim_rows.proofs.Common.{AtDispatch, GplOperation, is_row, MachineState, One, OneName, operation_in_view, Plain, PlainOp, Two, view}
use Rattle.sim_compare.specs.Family.{is_compare, is_comparison, is_test}

pub rows : (o : Option GplOperation) → is_comparison o ≡ true → is_row o ≡ true
rows (Some (One op)) e = refl
rows (Some (Two op)) e = refl
rows _ e = absurd (cc)

-- ---- one of the two

first : (b c : Bool) → (b || c) ≡ true → c ≡ false → b ≡ true
first true c e f = refl
first false c e f = absurd (true≢false (sym e ∙ f))

pub of_one : (op : OneName) → is_compare (Some (One op)) ≡ true → is_comparison (Some (One op)) ≡ true
of_one op e = first (is_comparison (Some (One op))) false e refl

module _ {x : MachineState} (at : AtDispatch is_compare x) where
  pub comparison : {o : Option GplOperation} → operation_in_view (view x) ≡ o → is_comparison o ≡ true → AtDispatch is_comparison x
  comparison is e = record { is_at = at.is_at; dispatched = at.dispatched; family = subst (λ (p : Option GplOperation). is_comparison p ≡ true) (sym is) e }

  family_of : {o : Option GplOperation} → operation_in_view (view x) ≡ o → is_compare o ≡ true
  family_of is = subst (λ (p : Option GplOperation). is_compare p ≡ true) is at.family

  pub row_of_one : (op : OneName) → operation_in_view (view x) ≡ Some (One op) → AtDispatch is_comparison x
  row_of_one op is = comparison is (of_one op (family_of is))

  pub test : (op : PlainOp) → operation_in_view (view x) ≡ Some (Plain op) → AtDispatch is_test x
  test op is = record { is_at = at.is_at; dispatched = at.dispatched; family = subst (λ (p : Option GplOperation). is_test p ≡ true) (sym is) (family_of is) }
