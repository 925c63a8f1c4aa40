-- FETCH and PUSH are rows; the others of this family are not.
use Rattle.std.proofs.Common.{None, ◌∙◌, ◌≡◌, ap, Option, refl, Some, subst, sym, true, ℕ}
use Rattle.sim_rows.proofs.Common.{after_code, code_byte, Dispatched, grom_at, GplState, IsView, View}
use Rattle.sim_rows.proofs.Common.{AtDispatch, CALL, GOCALL, GoOp, GORTN, GplOperation, is_row, Jump, MachineState, One}
use Rattle.sim_rows.proofs.Common.{OneName, operation_entry, operation_in_view, Plain, PlainOp, RTN, RTNC, IsAt, view}
use Rattle.sim_stack.proofs.Common.{is_stack, is_stack_row}
use Rattle.sim_rows.specs.gpl_defs.declared.instruction.OneName.TheVariants as one

pub rows : (o : Option GplOperation) → is_stack_row o ≡ true → is_row o ≡ true
rows (Some (One op)) e = refl
rows _ e = absurd (cc)

of_plain : (op : PlainOp) → is_stack (Some (Plain op)) ≡ true → operation_entry (Some (Plain op)) ≡ GORTN
of_plain RTN e = refl
of_plain RTNC e = refl
of_plain _ e = absurd (cc)

of_jump : (op : GoOp) → is_stack (Some (Jump op)) ≡ true → op ≡ CALL
of_jump CALL e = refl
of_jump _ e = absurd (cc)

of_one : (op : OneName) → is_stack (Some (One op)) ≡ true → is_stack_row (Some (One op)) ≡ true
of_one one.FETCH e = refl
of_one one.PUSH e = refl
of_one _ e = absurd (cc)

module _ {x : MachineState} (at : AtDispatch is_stack x) where
  pub here : {o : Option GplOperation} → operation_in_view (view x) ≡ o → is_stack o ≡ true
  here is = subst (λ (p : Option GplOperation). is_stack p ≡ true) is at.family

  is_at_address : {o : Option GplOperation} {n : ℕ} → operation_in_view (view x) ≡ o → operation_entry o ≡ n → IsAt x n
  is_at_address is e = subst (λ (n : ℕ). IsAt x n) (ap operation_entry is ∙ e) at.is_at

  pub at_return : {op : PlainOp} → operation_in_view (view x) ≡ Some (Plain op) → IsAt x GORTN
  at_return {op = op} is = is_at_address is (of_plain op (here is))

  pub is_call : {op : GoOp} → operation_in_view (view x) ≡ Some (Jump op) → operation_in_view (view x) ≡ Some (Jump CALL)
  is_call {op = op} is = is ∙ ap (λ (o : GoOp). Some (Jump o)) (of_jump op (here is))

  pub at_call : {op : GoOp} → operation_in_view (view x) ≡ Some (Jump op) → IsAt x GOCALL
  at_call is = is_at_address (is_call is) refl

  pub row_here : {op : OneName} → operation_in_view (view x) ≡ Some (One op) → AtDispatch is_stack_row x
  row_here {op = op} is = record {
    is_at = at.is_at;
    dispatched = at.dispatched;
    family = subst (λ (p : Option GplOperation). is_stack_row p ≡ true) (sym is) (of_one op (here is));
  }

-- ---- the view there, written out: so what the registers of CALL and RTN hold is known without a proof

-- Registers that are not named, and the address of the video processor with the byte there, are any.
abbrev pub dispatch_view : GplState → View → View
dispatch_view s v = record v {
  r = record v.r { r0 = code_byte s; r1 = s.pc };
  cells = s.cells;
  vdp = record v.vdp { memory = s.vdp; registers = s.registers; held = None };
  grom = grom_at s.image (after_code s);
}

pub dispatch_is : (s : GplState) (v : View) (P : View → Type 0) → IsView v → Dispatched s v →
    (IsView (dispatch_view s v) → P (dispatch_view s v)) → P v
dispatch_is s v P i d known =
    let e : v ≡ dispatch_view s v = λ i. record v {
      r = record v.r { r0 = d.code i; r1 = d.address i };
      cells = d.sees.cells i;
      vdp = record v.vdp { memory = d.sees.vdp i; registers = d.sees.registers i; held = d.sees.held i };
      grom = d.sees.grom i;
    } in
    subst P (sym e) (known (subst IsView e i))
