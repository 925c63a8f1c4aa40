-- ADDR as a routine: the place of the operand that follows, or a stop; on views, and on the machine.
use Rattle.std.proofs.Common.{ℕ, ◌%◌, ◌/◌, ◌==◌, ◌≡◌, ◌≤◌, arith, eqb, Err, false, nat_lt, Ok, refl, Result, subst, sym, true}
use Rattle.sim_view.specs.Prelude.{is_set, space_of}
use Rattle.sim_view.proofs.Common.{◌>>=◌, ADDR, ASPACE, comes, Exit, Exits, GplOperand, HoldsBytes, INDEX, index_at, indexed}
use Rattle.sim_view.proofs.Common.{is_view, IsFetched, MachineState, operand_at, pick, Place, place_of, pointed, PortsAreIdle, ranged}
use Rattle.sim_view.proofs.Common.{Reason, shifted, SLA, SRL, IsAt, View, view}
use Rattle.sim_view.specs.native_interp.declared.addresses.TheConstants.{ASHORT}
use Rattle.sim_view.specs.Prelude.{is_turn_end}
use Rattle.sim_view.specs.Routines.{◌>>◌}
use Rattle.sim_operands.specs.Pieces.{return_of}
use Rattle.sim_operands.specs.Routines.{check_index, find_operand, follow_pointer}
use Rattle.sim_operands.specs.Subroutines.{Addressed, Finds, FindsOperand, grom_at, next_at, OperandStop, Placed, state_of}
use Rattle.sim_operands.proofs.AddressPieces.{address_read, index_read, pointer_read, range_read, short_range_read, short_read}
use Rattle.sim_operands.proofs.Ends.{after, answered, ends_within, EndsBy, stayed, then_ends, went}
use Rattle.sim_operands.proofs.Ready.{ready}
use Rattle.sim_operands.specs.Pieces as pieces

-- ---- on views

-- The first piece never stops.
pub address_goes : (v : View) → is_turn_end (pieces.address v).to ≡ false
address_goes v =
    pick (nat_lt v.grom.fetched 0x80) (λ a. rw a refl)
    (λ a. pick (shifted SRL (shifted SLA v.grom.fetched 12) 4 == 0x0F00) (λ b. rw (a, b) refl) (λ b. rw (a, b) refl))

module _ (v : View) (at : ℕ) (ready : v.grom ≡ grom_at v.grom.image at) (bytes : HoldsBytes 65536 v.grom.image)
    (few : v.r.r3 ≤ 16384) where
  abbrev Found : Exit → ℕ → GplOperand × ℕ → Type 0
  Found e most read =
      EndsBy e most (return_of v) (Placed v read.1) (OperandStop v) (place_of (state_of v) v.r.r3 read.0)

  short : eqb (pieces.address v).to ASHORT ≡ true → Found (find_operand v) 38 (operand_at v.grom.image at)
  unfolding find_operand
  short is =
      let a = short_read v at ready bytes is in
      let e = pieces.address v in
      let q = ranged v.r.r3 (space_of (is_set 0 0x20)) a.address in
      subst (Found (find_operand v) 38) (sym a.means)
      (subst (λ (d : Exit). EndsBy d 38 (return_of v) (Placed v a.next) (OperandStop v) q)
      (sym (went ASHORT e pieces.short_range (e >> follow_pointer) is))
      (ends_within q (after e pieces.short_range 4 q a.goes.within
      (answered (pieces.short_range e.left) 9 9 (return_of v) (Placed v a.next) (OperandStop v) q (omega arith)
      (short_range_read v e.left a.address a.next a.below few a.goes.holds))) (omega arith)))

  long : eqb (pieces.address v).to ASHORT ≡ false → Found (find_operand v) 38 (operand_at v.grom.image at)
  unfolding find_operand follow_pointer check_index
  long is =
      let a = address_read v at ready bytes is in
      let e = pieces.address v in
      let index = index_at a.form v.grom.image a.next in
      let ranges : ℕ → Result Place Reason = λ address. ranged v.r.r3 (space_of (is_set a.form 0x20)) address in
      let adds : ℕ → Result Place Reason = λ base. (indexed (state_of v) index.0 base >>= ranges) in
      let q = pointed (state_of v) (a.form / 16 % 2 == 1) a.address in
      subst (Found (find_operand v) 38) (sym a.means)
      (subst (λ (d : Exit). EndsBy d 38 (return_of v) (Placed v index.1) (OperandStop v) (q >>= adds))
      (sym (stayed ASHORT e pieces.short_range (e >> follow_pointer) is))
      (after e follow_pointer 10 (q >>= adds) a.goes.within
      (then_ends INDEX (pieces.pointer e.left) check_index q adds refl
      (answered (pieces.pointer e.left) 7 9 INDEX (λ base. Addressed v base (a.form / 32) a.next) (OperandStop v) q (omega arith)
      (pointer_read v e.left a.address a.form a.next a.form_fits a.goes.holds))
      (λ base known p.
      let w = (pieces.pointer e.left).left in
      then_ends ASPACE (pieces.index w) pieces.range (indexed (state_of v) index.0 base) ranges refl
      (answered (pieces.index w) 8 10 ASPACE (λ address. Addressed v address (a.form / 32) index.1) (OperandStop v)
      (indexed (state_of v) index.0 base) (omega arith) (index_read v w base a.form a.next a.form_fits p))
      (λ address known p.
      answered (pieces.range (pieces.index w).left) 9 9 (return_of v) (Placed v index.1) (OperandStop v) (ranges address) (omega arith)
      (range_read v (pieces.index w).left address a.form index.1 a.form_fits few p))))))

  pub operand_goes : Found (find_operand v) 38 (operand_at v.grom.image at)
  operand_goes = pick (eqb (pieces.address v).to ASHORT) short long

-- ---- on the machine

module _ {x y : MachineState} {s t : ℕ} where
  found : {e : Exit} (next : ℕ) (r : Result Place Reason) → Exits x y s t e →
      EndsBy e 38 (return_of (view x)) (Placed (view x) next) (OperandStop (view x)) r → Finds x y s t next r
  found next (Ok place) run g = comes run g.by
  found next (Err reason) run g = comes run g.by

  pub finds_operand : IsAt x ADDR → PortsAreIdle x.cpu.memory → IsFetched x.cpu.memory.grom → (view x).r.r3 ≤ 16384 →
      Exits x y s t (find_operand (view x)) → FindsOperand x y s t
  finds_operand is_at idle fetched few run =
      let v = view x in
      let read = operand_at v.grom.image (next_at v) in
      let all = (is_view x is_at.machine).grom.image in
      found read.1 (place_of (state_of v) v.r.r3 read.0) run
      (operand_goes v (next_at v) (ready x.cpu.memory idle fetched) all few)
