-- CASE is a row, and the only one of this family.
use Rattle.std.proofs.Common.{◌≡◌, ◌∙◌, ap, Option, refl, Some, subst, sym, true}
use Rattle.sim_rows.proofs.Common.{AtDispatch, B, CASE, EXIT, GoOp, GplOperation, is_row, Jump, MachineState, One, OneName, operation_entry, operation_in_view}
use Rattle.sim_rows.proofs.Common.{Plain, PlainOp, IsAt, view}
use Rattle.sim_flow.specs.Family.{is_case, is_flow}

pub rows : (o : Option GplOperation) → is_case o ≡ true → is_row o ≡ true
rows (Some (One op)) e = refl
rows _ e = absurd (cc)

pub case_alone : (op : GplOperation) → is_case (Some op) ≡ true → op ≡ One CASE
case_alone (One CASE) e = refl
case_alone _ e = absurd (cc)

-- ---- the others are one of their kind

exit_alone : (op : PlainOp) → is_flow (Some (Plain op)) ≡ true → op ≡ EXIT
exit_alone EXIT e = refl
exit_alone _ e = absurd (cc)

jump_alone : (op : GoOp) → is_flow (Some (Jump op)) ≡ true → op ≡ B
jump_alone B e = refl
jump_alone _ e = absurd (cc)

of_one : (op : OneName) → is_flow (Some (One op)) ≡ true → is_case (Some (One op)) ≡ true
of_one CASE e = refl
of_one _ e = absurd (cc)

module _ {x : MachineState} (at : AtDispatch is_flow x) where
  here : {o : Option GplOperation} → operation_in_view (view x) ≡ o → is_flow o ≡ true
  here is = subst (λ (p : Option GplOperation). is_flow p ≡ true) is at.family

  pub is_at_address : {o : Option GplOperation} → operation_in_view (view x) ≡ o → IsAt x (operation_entry o)
  is_at_address is = subst (λ (p : Option GplOperation). IsAt x (operation_entry p)) is at.is_at

  pub is_exit : {op : PlainOp} → operation_in_view (view x) ≡ Some (Plain op) → operation_in_view (view x) ≡ Some (Plain EXIT)
  is_exit {op = op} is = is ∙ ap (λ (p : PlainOp). Some (Plain p)) (exit_alone op (here is))

  pub is_jump : {op : GoOp} → operation_in_view (view x) ≡ Some (Jump op) → operation_in_view (view x) ≡ Some (Jump B)
  is_jump {op = op} is = is ∙ ap (λ (p : GoOp). Some (Jump p)) (jump_alone op (here is))

  pub case_here : {op : OneName} → operation_in_view (view x) ≡ Some (One op) → AtDispatch is_case x
  case_here {op = op} is = record {
    is_at = at.is_at;
    dispatched = at.dispatched;
    family = subst (λ (p : Option GplOperation). is_case p ≡ true) (sym is) (of_one op (here is));
  }
