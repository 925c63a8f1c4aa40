-- A row of a family, from its dispatch to the end of the step: the same for every family.
use Rattle.std.proofs.Common.{ℕ, ◌<◌, ◌∙◌, ◌≡◌, ◌≤◌, ap, arith, Bool, false, None, Option, refl, Some, subst, sym, true}
use Rattle.sim_view.proofs.Common.{is_view}
use Rattle.sim_rows.specs.Prelude.{AtDispatch, AtEntry, bytes_by, Cell, code_byte, GplOperation, GplState, HasStarted, is_turn_end, is_row, IsVisible}
use Rattle.sim_rows.specs.Prelude.{MachineState, next_of, operation_entry, operation_in, row_entry, row_width, RunsRow, size_of}
use Rattle.sim_rows.specs.Prelude.{from_dispatch, state_at_dispatch, Stepped, Stopped, Turn, Turned, view, Width, width_in}
use Rattle.sim_rows.proofs.Ends.{fetched_of, idle_of}
use Rattle.sim_rows.proofs.FirstOperand.{space_small}
use Rattle.sim_rows.proofs.StoredResults.{width_again}
use Rattle.sim_rows.proofs.WholeRows.{destination_visible, Started, started, stopped_row, turned_or_stopped, turned_row, TurnsRow}
use Rattle.sim_view.specs.gpl_defs.declared.instruction.OneName.TheVariants as one
use Rattle.sim_view.specs.gpl_defs.declared.instruction.TwoName.TheVariants as two
use Rattle.sim_view.specs.gpl_defs.declared.instruction.GplOperation.TheVariants as operation

-- ---- the operations of rows

-- They begin at none of the three ends, and the destination takes the bytes of a value at least.
record OfRow (op : GplOperation) : Type 0 where
  starts : is_turn_end (operation_entry (Some op)) ≡ false
  goes : is_turn_end (row_entry (Some op)) ≡ false
  bytes : (w : Width) → size_of w ≤ bytes_by (Some op) w

of_row : (op : GplOperation) → is_row (Some op) ≡ true → OfRow op
of_row (operation.One one.ABS) e = record { starts = refl; goes = refl; bytes = λ w. omega arith }
of_row (operation.One _) e = record { starts = refl; goes = refl; bytes = λ w. omega arith }
of_row (operation.Two two.ADD) e = record { starts = refl; goes = refl; bytes = λ w. omega arith }
of_row (operation.Two _) e = record { starts = refl; goes = refl; bytes = λ w. omega arith }
of_row _ e = absurd (cc)

pub starts_row : (o : Option GplOperation) → is_row o ≡ true → is_turn_end (operation_entry o) ≡ false
starts_row (Some op) e = (of_row op e).starts
starts_row None e = absurd (cc)

-- ---- from the dispatch to the entry

module _ {belongs : Option GplOperation → Bool} (rows : (o : Option GplOperation) → belongs o ≡ true → is_row o ≡ true)
    {x : MachineState} (at : AtDispatch belongs x) where
  abbrev pub s : GplState
  s = state_at_dispatch (view x)

  pub fits : code_byte s < 256
  fits = (is_view x at.is_at.machine).grom.image.fits s.pc

  pub row : is_row (operation_in s) ≡ true
  row = rows (operation_in s) at.family

  pub start : is_turn_end x.cpu.pc ≡ false
  start = ap is_turn_end at.is_at.pc ∙ starts_row (operation_in s) row

  pub at_row : AtDispatch is_row x
  at_row = record { is_at = at.is_at; dispatched = at.dispatched; family = row }

  -- an operand is not visible
  pub stopped : {y : MachineState} {t u : ℕ} {returned : Option GplOperation} → returned ≡ None →
      HasStarted s x y t u returned → Turned s x y (from_dispatch t u) (Stopped Cell)
  stopped {y = y} {t = t} {u = u} {returned = returned} none l = stopped_row s x t fits start row y u returned none l.starts

  -- the operands are loaded, and the operation is returned
  module _ {y : MachineState} {t u : ℕ} {op : GplOperation} {returned : Option GplOperation} (is : returned ≡ Some op)
      (l : HasStarted s x y t u returned) where
    pub begun : Started s x t fits start row op y u
    begun = started s x t fits start row op y u returned is l.starts

    pub family : belongs (Some op) ≡ true
    family = subst (λ (o : Option GplOperation). belongs o ≡ true) begun.is_operation at.family

    of : OfRow op
    of = of_row op (rows (Some op) family)

    visible : IsVisible (view y).r.r8 (view y).r.r7 (view y).r.r3
    visible = λ z.
        let h = begun.comes.holds in
        let d = destination_visible s begun.place begun.source begun.is_both (sym h.to_place.space ∙ z) in
        let n : size_of (width_in (view y).r.r3) ≡ size_of (row_width s) =
        ap (λ k. size_of (width_in k)) h.holds.bytes_are ∙ ap size_of (width_again (row_width s)) in
        let m : size_of (row_width s) ≤ bytes_by (operation_in s) (row_width s) =
        subst (λ (o : Option GplOperation). size_of (row_width s) ≤ bytes_by o (row_width s)) (sym begun.is_operation) (of.bytes (row_width s)) in
        let p = h.to_place.address in
        omega arith

    pub entry : AtEntry belongs op y
    entry = record {
      is_at = begun.comes.is_at;
      family = family;
      idle = idle_of y.cpu.memory s (next_of s) begun.comes.holds.holds.sees;
      fetched = fetched_of y.cpu.memory s (next_of s) begun.comes.holds.holds.sees;
      space = space_small begun.place.space (view y).r.r8 begun.comes.holds.to_place.space;
      visible = visible;
    }

    pub turned : (most : ℕ) {z : MachineState} {v : ℕ} → most ≤ 260 → RunsRow op most y z u v → Turned s x z (from_dispatch t v) Stepped
    turned most {z = z} {v = v} le r = turned_row s x t fits start row op y z u v most begun of.goes r le

    -- the same of a row that may stop
    pub turned_or : (most : ℕ) (z : MachineState) (v : ℕ) (turn : Turn) → most ≤ 220 → TurnsRow op most y z u v turn →
        Turned s x z (from_dispatch t v) turn
    turned_or most z v turn le r = turned_or_stopped s x t fits start row op y z u v most turn begun of.goes r le
