-- EX is a row, and the only one of this family.
use Rattle.std.proofs.Common.{ℕ, ◌<◌, ◌∙◌, ◌≡◌, ap, arith, Option, refl, Some, subst, sym, true}
use Rattle.sim_rows.specs.Prelude.{AtEntry, HasStarted}
use Rattle.sim_rows.proofs.Common.{AtDispatch, Byte, EX, GplOperation, GplState, is_row, IsVisible, LoadsFrom, LoadsFromSource, MachineState}
use Rattle.sim_rows.proofs.Common.{bound_of_exchange_row, operation_entry, operation_in_view, Place, row_width, RunsRow, size_of, space_small}
use Rattle.sim_rows.proofs.Common.{from_dispatch, IsAt, state_at_dispatch, Stepped, Turned, Two, TwoName, view, visible_of, Width, Word}
use Rattle.sim_rows.proofs.WholeRows.{source_visible}
use Rattle.sim_misc.specs.Family.{is_exchange, is_misc}
use Rattle.sim_misc.proofs.Exchanges.{source_place}
use Rattle.sim_rows.proofs.Family as family

pub rows : (o : Option GplOperation) → is_exchange o ≡ true → is_row o ≡ true
rows (Some (Two op)) e = refl
rows _ e = absurd (cc)

pub exchange_alone : (op : GplOperation) → is_exchange (Some op) ≡ true → op ≡ Two EX
exchange_alone (Two EX) e = refl
exchange_alone _ e = absurd (cc)

of_two : (op : TwoName) → is_misc (Some (Two op)) ≡ true → is_exchange (Some (Two op)) ≡ true
of_two EX e = refl
of_two _ e = absurd (cc)

pub exchange_here : {x : MachineState} → AtDispatch is_misc x → {op : TwoName} → operation_in_view (view x) ≡ Some (Two op) → AtDispatch is_exchange x
exchange_here {x = x} at {op = op} is = record {
  is_at = at.is_at;
  dispatched = at.dispatched;
  family = subst (λ (p : Option GplOperation). is_exchange p ≡ true) (sym is) (of_two op (subst (λ (p : Option GplOperation). is_misc p ≡ true) is at.family));
}

-- at the entry of an operation that is known
pub entered : (x : MachineState) (o : Option GplOperation) → operation_in_view (view x) ≡ o → IsAt x (operation_entry (operation_in_view (view x))) →
    IsAt x (operation_entry o)
entered x o is is_at = subst (λ (o : Option GplOperation). IsAt x (operation_entry o)) is is_at

some_bytes : (w : Width) → 0 < size_of w
some_bytes Byte = omega arith
some_bytes Word = omega arith

module _ {x y : MachineState} {t u : ℕ} {op : GplOperation} {found : Option GplOperation} (at : AtDispatch is_exchange x) (is : found ≡ Some op)
    (l : HasStarted (state_at_dispatch (view x)) x y t u found) where
  abbrev s : GplState
  s = state_at_dispatch (view x)

  alone : op ≡ Two EX
  alone = exchange_alone op (family.family rows at is l)

  pub entry : AtEntry is_exchange (Two EX) y
  entry = subst (λ (o : GplOperation). AtEntry is_exchange o y) alone (family.entry rows at is l)

  -- the place of the source
  from : (p : Place) × ((family.begun rows at is l).source.place ≡ Some p)
  from =
      let b = family.begun rows at is l in
      source_place s b.place b.source (family.fits rows at) (b.is_operation ∙ ap Some alone) b.is_both

  loads : LoadsFrom from.0 (view y)
  loads = subst (λ (o : Option Place). LoadsFromSource o (view y)) from.1 (family.begun rows at is l).comes.holds.from_source

  pub source_space : (view y).r.r5 < 2
  source_space = space_small from.0.space (view y).r.r5 loads.space

  pub source_seen : IsVisible (view y).r.r5 (view y).r.r2 (view y).r.r3
  source_seen =
      let b = family.begun rows at is l in
      let lies = rw from.1 at (source_visible s b.place b.source b.is_both) in
      visible_of from.0 (size_of (row_width s)) (view y).r.r5 (view y).r.r2 (view y).r.r3 loads.space loads.address b.comes.holds.holds.bytes_are
      (some_bytes (row_width s)) lies

  pub turned : {z : MachineState} {v : ℕ} → RunsRow (Two EX) bound_of_exchange_row y z u v → Turned s x z (from_dispatch t v) Stepped
  turned {z = z} {v = v} r =
      family.turned rows at is l 67 (omega arith) (subst (λ (o : GplOperation). RunsRow o bound_of_exchange_row y z u v) (sym alone) r)
