-- The turn from the dispatch of a step.
use Rattle.std.proofs.Common.{ℕ, ◌≡◌, Bool, None, Option, refl, slice_index, Some, subst, sym, true}
use Rattle.sim_rows.proofs.Common.{AtDispatch, code_byte, ReachesWithin, Dispatched, Exits, GplOperation, GplState, MachineState, bound_to_dispatch, Opcode}
use Rattle.sim_rows.proofs.Common.{from_dispatch, operation_at, operation_entry, operation_in_view, IsAt, state_at, state_at_dispatch, step_none, Stopped, Turn, Turned, whole_turn}
use Rattle.sim_rows.proofs.Common.{turned_from, UNKN, view}
use Rattle.sim_steps.specs.declared.family.Family.TheVariants.{Refused}
use Rattle.sim_steps.specs.Families.{belongs}
use Rattle.sim_steps.proofs.RefusedCodes.{refuses}
use Rattle.sim_steps.specs.Pieces as pieces
use Rattle.sim_steps.proofs.Families as families

module _ (s : GplState) (x y : MachineState) (t u : ℕ) (c : ReachesWithin bound_to_dispatch x y t u (operation_entry (operation_at (code_byte s))) (Dispatched s)) where
  seen : state_at_dispatch (view y) ≡ s
  seen = state_at (view y) s c.holds

  pub dispatched : Dispatched (state_at_dispatch (view y)) (view y)
  dispatched = subst (λ (z : GplState). Dispatched z (view y)) (sym seen) c.holds

  pub is_at : IsAt y (operation_entry (operation_in_view (view y)))
  is_at = subst (λ (z : GplState). IsAt y (operation_entry (operation_at (slice_index z.image z.pc)))) (sym seen) c.is_at

  pub at_dispatch : (is_one : Option GplOperation → Bool) → is_one (operation_in_view (view y)) ≡ true → AtDispatch is_one y
  at_dispatch is_one family = record { is_at = is_at; dispatched = dispatched; family = family }

  pub turned : (z : MachineState) (after : ℕ) (turn : Turn) → Turned (state_at_dispatch (view y)) y z (from_dispatch u after) turn
      → Turned s x z (whole_turn t after) turn
  turned z after turn h =
      turned_from z after s turn c (families.enters (operation_at (code_byte s))) (subst (λ (q : GplState). Turned q y z (from_dispatch u after) turn) seen h)

none_of : (o : Option GplOperation) → belongs Refused o ≡ true → o ≡ None
none_of None e = refl
none_of (Some op) e = absurd (cc)

pub at_stop : (y : MachineState) → AtDispatch (belongs Refused) y → IsAt y UNKN
at_stop y at = subst (λ (o : Option GplOperation). IsAt y (operation_entry o)) (none_of (operation_in_view (view y)) at.family) at.is_at

pub refused : (y z : MachineState) (u after : ℕ) → AtDispatch (belongs Refused) y → Exits y z u after (pieces.stop_code (view y)) →
    Turned (state_at_dispatch (view y)) y z (from_dispatch u after) (Stopped Opcode)
refused y z u after at run =
    let s = state_at_dispatch (view y) in
    refuses s y z u after at.dispatched (step_none s (none_of (operation_in_view (view y)) at.family)) (at_stop y at) run
