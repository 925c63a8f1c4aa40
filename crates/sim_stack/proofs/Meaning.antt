-- What is known of the family's rows on views holds on the machine.
use Rattle.std.proofs.Common.{eqb, ◌%◌, ◌==◌, ◌∙◌, ◌≡◌, ap, arith, Bool, Err, false, if◌then◌else◌, Ok, Option}
use Rattle.std.proofs.Common.{refl, Result, Some, sym, true, ℕ}
use Rattle.sim_rows.proofs.Common.{◌>>=◌, AtDispatch, AtRow, bound, bound_made, bound_stop, Byte, CALL, Changes}
use Rattle.sim_rows.proofs.Common.{code_byte, Dispatched, EXIT, Exit, Exits, finished, from_dispatch, GplOperation, GplState}
use Rattle.sim_rows.proofs.Common.{if_true, is_exit, is_turn_end, is_view, IsView, Jump, MachineState, matches, bound_to_dispatch, never_exits}
use Rattle.sim_rows.proofs.Common.{One, operands_of, operation_at, operation_in, Place, Plain, PlainOp, PUSH, reaches}
use Rattle.sim_rows.proofs.Common.{Reason, row_result, row_width, size_of, Source, IsAt, state_at_dispatch, step}
use Rattle.sim_rows.proofs.Common.{step_jump, step_plain, Stopped, stops, Turn, Turned, turned_by, TurnsBy, unchanged}
use Rattle.sim_rows.proofs.Common.{View, view, Width, Word, word_or_byte}
use Rattle.sim_rows.specs.gpl_defs.declared.instruction.OneName.TheVariants.{FETCH}
use Rattle.sim_stack.proofs.Calls.{beyond, calls, read_in}
use Rattle.sim_stack.proofs.Fetches.{fetches}
use Rattle.sim_stack.proofs.Pushes.{pushes}
use Rattle.sim_stack.proofs.ReturnRows.{past_code, returns}
use Rattle.sim_stack.proofs.Room.{EndsByRoom}
use Rattle.sim_stack.proofs.Common.{called, comes_by, HasStarted, is_stack, is_stack_row, jump, plain, returned, row}
use Rattle.sim_stack.proofs.Common.{turn_at}
use Rattle.std.proofs.lemmas.Bool.{agree_below_at, eqb-true}
use Rattle.sim_stack.proofs.Dispatch.{rows}
use Rattle.sim_rows.proofs.Family as family

one_byte : (w : Width) → size_of w ≡ 1 → w ≡ Byte
one_byte Byte e = refl
one_byte Word e = absurd (omega arith)

-- FETCH and PUSH by their operands
pub row_means : (op : GplOperation) → is_stack_row (Some op) ≡ true → (s : GplState) (place : Place) (source : Source)
    (v : View) → IsView v → v.r.r3 ≡ 1 → operation_in s ≡ Some op → AtRow s place source v →
    operands_of s ≡ Ok (place, source) → EndsByRoom (row op v) 131 s (row_result op s place source)
row_means (One FETCH) e s place source v i one is at operands =
    fetches s place source v i is at operands (one_byte (row_width s) (sym at.holds.bytes_are ∙ one))
row_means (One PUSH) e s place source v i one is at operands =
    pushes s place source v i is at (one_byte (row_width s) (sym at.holds.bytes_are ∙ one))
row_means _ e s place source v i one is at operands = absurd (cc)

stack_stays : (o : Option GplOperation) → is_stack o ≡ true → is_exit o ≡ false
stack_stays (Some (Plain op)) e = by op e
  where
    by : (op : PlainOp) → is_stack (Some (Plain op)) ≡ true → is_exit (Some (Plain op)) ≡ false
    by EXIT e = absurd (cc)
    by _ e = refl
stack_stays _ e = refl

module _ {x y : MachineState} {before after : ℕ} {turn : Turn} (turn_is : turn ≡ turn_at y.cpu.pc) where
  -- the turn, by where it ended
  pub turns_at : {e : Exit} (most : ℕ) (s : GplState) (r : Result Changes Reason) → Exits x y before after e →
      EndsByRoom e most s r → TurnsBy most s x y before after turn r
  turns_at most s (Ok c) run h = let k = comes_by run h in (turn_is ∙ ap turn_at k.is_at.pc, k)
  turns_at most s (Err reason) run h =
      let k = comes_by run h.1 in (turn_is ∙ ap turn_at k.is_at.pc ∙ ap Stopped (sym h.0), k)

  -- what is no row, by its result
  turned_by_result : (s : GplState) (r : Result Changes Reason) {e : Exit} → is_turn_end x.cpu.pc ≡ false →
      is_exit (operation_in s) ≡ false → step s ≡ (r >>= λ (c : Changes). Ok (finished c)) →
      ((next : GplState) → step s ≡ Ok next → bound s ≡ 440) → Exits x y before after e → EndsByRoom e 54 s r →
      Turned s x y (from_dispatch before after) turn
  turned_by_result s (Ok c) start stays is bound_is run h =
      let k = turns_at 54 s (Ok c) run h in
      let b = bound_is (finished c) is in
      turned_by x y before after bound_to_dispatch turn s (Ok (finished c)) is (
        k.0,
        reaches bound_to_dispatch (bound s) k.1 start refl (omega arith),
        matches (finished c) y k.1.is_at k.1.holds,
      )
  turned_by_result s (Err reason) start stays is bound_is run h =
      let k = turns_at 54 s (Err reason) run h in
      let b = bound_stop s reason is in
      turned_by x y before after bound_to_dispatch turn s (Err reason) is (
        k.0,
        reaches bound_to_dispatch (bound s) k.1 start refl (omega arith),
        stops s reason y (never_exits s reason stays is) k.1.is_at k.1.holds,
      )

  module _ (s : GplState) {entry : ℕ} (is_at : IsAt x entry) (start : is_turn_end entry ≡ false)
      (d : Dispatched s (view x)) where
    pub call_turns : operation_in s ≡ Some (Jump CALL) → Exits x y before after (called (view x)) →
        Turned s x y (from_dispatch before after) turn
    call_turns op run =
        turned_by_result s (jump CALL (read_in s).0 (unchanged (beyond s))) (ap is_turn_end is_at.pc ∙ start) (ap is_exit op)
        (step_jump s CALL op) (λ next. bound_made s next (Some (Jump CALL)) op) run
        (calls s (view x) (is_view x is_at.machine) d)

    pub return_turns : (op : PlainOp) → is_stack (Some (Plain op)) ≡ true → operation_in s ≡ Some (Plain op) →
        Exits x y before after (returned (view x)) → Turned s x y (from_dispatch before after) turn
    return_turns op family at run =
        turned_by_result s (plain op (unchanged (past_code s))) (ap is_turn_end is_at.pc ∙ start)
        (stack_stays (operation_in s) (ap is_stack at ∙ family)) (step_plain s op at)
        (λ next. bound_made s next (Some (Plain op)) at) run (returns s (view x) op family (is_view x is_at.machine) d at)

-- ---- they have the form of bytes alone

abbrev bytes_alone : ℕ → Bool
bytes_alone code = if is_stack_row (operation_at code) then eqb (size_of (word_or_byte (code % 2 == 1))) 1 else true

-- ---- from the dispatch on

module _ {x y : MachineState} {t u : ℕ} {op : GplOperation} {found : Option GplOperation}
    (at : AtDispatch is_stack_row x) (is : found ≡ Some op) (l : HasStarted (state_at_dispatch (view x)) x y t u found)
  where
    abbrev s : GplState
    s = state_at_dispatch (view x)

    pub byte_row : (view y).r.r3 ≡ 1
    byte_row =
        (family.begun rows at is l).comes.holds.holds.bytes_are
        ∙ eqb-true (size_of (row_width s)) 1
        (if_true (is_stack_row (operation_in s)) (eqb (size_of (row_width s)) 1) at.family
        (agree_below_at bytes_alone (λ _. true) 256 (code_byte s) refl (family.fits rows at)))

    pub turned : {z : MachineState} {v : ℕ} {turn : Turn} → Exits y z u v (row op (view y)) → turn ≡ turn_at z.cpu.pc →
        Turned s x z (from_dispatch t v) turn
    turned {z = z} {v = v} {turn = turn} run turn_is =
        let b = family.begun rows at is l in
        let e = family.family rows at is l in
        let i = is_view y b.comes.is_at.machine in
        family.turned_or rows at is l 131 z v turn (omega arith)
        (λ s place source known here operands. turns_at turn_is 131 s (row_result op s place source) run
        (row_means op e s place source (view y) i byte_row known here operands))
