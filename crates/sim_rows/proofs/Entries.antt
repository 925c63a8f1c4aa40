-- The kinds of rows, by the entry that the first table has for them.
use Rattle.std.proofs.Common.{ℕ, ◌*◌, ◌∙◌, ◌≡◌, ◌⊎◌, ap, arith, inl, inr, Option, refl, Some, sym, true}
use Rattle.sim_rows.specs.Prelude.{return_of_destination, bytes_by, DIV, even, GplOperation, GSTOP, is_row, MUL, operation_entry, ROW, size_of, ST, TwoName}
use Rattle.sim_rows.specs.Prelude.{WIDE, Width}
use Rattle.sim_view.specs.gpl_defs.declared.instruction.GplOperation.TheVariants as operation
use Rattle.sim_view.specs.native_interp.declared.addresses.TheConstants.{OPSDST, STDST, STROW, WIDDST}

-- Where the row begins, where ADDR returns to with its destination, and how many values that takes.
pub record Kind (o : Option GplOperation) (entry label values : ℕ) : Type 0 where
  pub starts : operation_entry o ≡ entry
  pub label_is : return_of_destination o ≡ label
  pub bytes : (w : Width) → bytes_by o w ≡ values * size_of w

pub record Wide (o : Option GplOperation) : Type 0 where
  pub kind : Kind o WIDE WIDDST 2
  pub name : TwoName
  pub is : o ≡ Some (operation.Two name)

pub record Storer (o : Option GplOperation) : Type 0 where
  pub kind : Kind o STROW STDST 1
  pub is : o ≡ Some (operation.Two ST)

kind_of : (o : Option GplOperation) → is_row o ≡ true → Kind o ROW OPSDST 1 ⊎ (Wide o ⊎ Storer o)
kind_of (Some (operation.Two MUL)) row = inr (inl (record { kind = record { starts = refl; label_is = refl; bytes = λ w. refl }; name = MUL; is = refl }))
kind_of (Some (operation.Two DIV)) row = inr (inl (record { kind = record { starts = refl; label_is = refl; bytes = λ w. refl }; name = DIV; is = refl }))
kind_of (Some (operation.Two ST)) row = inr (inr (record { kind = record { starts = refl; label_is = refl; bytes = λ w. omega arith }; is = refl }))
kind_of (Some (operation.Two _)) row = inl (record { starts = refl; label_is = refl; bytes = λ w. omega arith })
kind_of (Some (operation.One _)) row = inl (record { starts = refl; label_is = refl; bytes = λ w. omega arith })
kind_of _ row = absurd (cc)

module _ (o : Option GplOperation) (row : is_row o ≡ true) where
  pub narrow : (operation_entry o ≡ WIDE → ⊥) → (operation_entry o ≡ STROW → ⊥) → Kind o ROW OPSDST 1
  narrow a b = by (kind_of o row)
    where
      by : Kind o ROW OPSDST 1 ⊎ (Wide o ⊎ Storer o) → Kind o ROW OPSDST 1
      by (inl k) = k
      by (inr (inl k)) = absurd (a k.kind.starts)
      by (inr (inr k)) = absurd (b k.kind.starts)

  pub wide : operation_entry o ≡ WIDE → Wide o
  wide e = by (kind_of o row)
    where
      by : Kind o ROW OPSDST 1 ⊎ (Wide o ⊎ Storer o) → Wide o
      by (inl k) = let a = k.starts in absurd (omega arith)
      by (inr (inl k)) = k
      by (inr (inr k)) = let a = k.kind.starts in absurd (omega arith)

  pub storer : operation_entry o ≡ STROW → Storer o
  storer e = by (kind_of o row)
    where
      by : Kind o ROW OPSDST 1 ⊎ (Wide o ⊎ Storer o) → Storer o
      by (inl k) = let a = k.starts in absurd (omega arith)
      by (inr (inl k)) = let a = k.kind.starts in absurd (omega arith)
      by (inr (inr k)) = k

  -- ADDR returns there, which is not the stop
  pub returns_there : (even (return_of_destination o) ≡ return_of_destination o) × (return_of_destination o ≡ GSTOP → ⊥)
  returns_there = by (kind_of o row)
    where
      away : {entry label values : ℕ} → Kind o entry label values → even label ≡ label → (label ≡ GSTOP → ⊥) →
          (even (return_of_destination o) ≡ return_of_destination o) × (return_of_destination o ≡ GSTOP → ⊥)
      away k e n = (ap even k.label_is ∙ e ∙ sym k.label_is, λ stop. n (sym k.label_is ∙ stop))

      by : Kind o ROW OPSDST 1 ⊎ (Wide o ⊎ Storer o) → (even (return_of_destination o) ≡ return_of_destination o) × (return_of_destination o ≡ GSTOP → ⊥)
      by (inl k) = away k refl (λ e. absurd (omega arith))
      by (inr (inl k)) = away k.kind refl (λ e. absurd (omega arith))
      by (inr (inr k)) = away k.kind refl (λ e. absurd (omega arith))
