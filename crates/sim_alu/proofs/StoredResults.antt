-- The result of a row is stored, and then its status.
use Rattle.std.proofs.Common.{ℕ, ⊎_elim, ◌∙◌, ◌≡◌, ap, arith, List, refl, Result, slice_set, Some, subst, sym, true}
use Rattle.sim_rows.proofs.Common.{ShowsChanges, ChangedFrom, Changes, ReachesWithin, comes, comes_as, comes_on, comes_then, EndsRow, even, Exits, Goes}
use Rattle.sim_rows.proofs.Common.{gone_on}
use Rattle.sim_rows.proofs.Common.{GplOperation, GSTEP, high, idle_again, is_view, join, MachineState, bound_of_alu_row, bound_of_store, PortsAreIdle, Reason}
use Rattle.sim_rows.proofs.Common.{row_width, RunsRow, SeesFinished, SeesResult, SHOW, IsAt, STATB, STATUS, STO, store_then, stored_idle, StoresResult}
use Rattle.sim_rows.proofs.Common.{StoresValue, Storing, unchanged, View, view, with_status, with_value}
use Rattle.sim_alu.specs.Family.{is_alu, result_piece}
use Rattle.sim_alu.specs.Tails.{StoresWithStatus}
use Rattle.sim_alu.proofs.Frames.{frame}
use Rattle.sim_alu.proofs.MadeResults.{Flagged, Plain}
use Rattle.sim_alu.specs.Pieces as piece
use Rattle.sim_alu.proofs.MadeResults

-- ---- the status after the result

high_is : (status : ℕ) → high (join status 0) ≡ status
high_is status = omega arith

status_stored : (c : Changes) (status : ℕ) (v : View) → ShowsChanges c v → v.r.r12 ≡ join status 0 →
    Goes (piece.store_status v) 1 SHOW (ShowsChanges (with_status status c))
status_stored c status v h e =
    record {
      within = omega arith;
      to_is = refl;
      holds = record {
        cells = ap (λ (l : List ℕ). slice_set l STATUS (high v.r.r12)) h.cells ∙ ap (slice_set c.state.cells STATUS) (ap high e ∙ high_is status);
        vdp = h.vdp;
        registers = h.registers;
        held = h.held;
        grom = h.grom;
        mark = h.mark;
      };
    }

pub with_status_stored : (x y z q : MachineState) (t u w p : ℕ) → (view x).r.r11 ≡ STATB → StoresValue x y t u → Exits y z u w (piece.store_status (view y)) →
    EndsRow z q w p → StoresWithStatus x q t p
with_status_stored x y z q t u w p link d e f c width place number status h r12 =
    let done : Changes = with_value width place number c in
    let a : ReachesWithin bound_of_store x y t u STATB (ChangedFrom done (view x)) =
    subst (λ (n : ℕ). ReachesWithin bound_of_store x y t u n (ChangedFrom done (view x))) (ap even link)
    (store_then c width place number x y t u h d) in
    let b = comes_then 15 1 a e (status_stored done status (view y) a.holds.changed (a.holds.keeps.r12 ∙ r12)) refl in
    comes_on 16 28 b (f (with_status status done) b.holds) refl

-- the ports stay idle
pub status_idle : (x y z : MachineState) (t u w : ℕ) → PortsAreIdle x.cpu.memory → StoresValue x y t u → Exits y z u w (piece.store_status (view y)) →
    PortsAreIdle z.cpu.memory
status_idle x y z t u w i d e =
    idle_again y.cpu.memory z.cpu.memory (ap (λ (q : View). q.vdp) e.shows) (ap (λ (q : View). q.grom) e.shows) (stored_idle x y t u i d)

pub result_idle : (op : GplOperation) (x y : MachineState) (t u : ℕ) → is_alu (Some op) ≡ true → PortsAreIdle x.cpu.memory →
    Exits x y t u (result_piece op (view x)) → PortsAreIdle y.cpu.memory
result_idle op x y t u f i e =
    let k = frame op (view x) f in
    idle_again x.cpu.memory y.cpu.memory (ap (λ (q : View). q.vdp) e.shows ∙ k.vdp) (ap (λ (q : View). q.grom) e.shows ∙ k.grom) i

-- ---- a row

module _ (op : GplOperation) (x y z : MachineState) (t u w : ℕ) (f : is_alu (Some op) ≡ true) (start : ℕ) (is_at : IsAt x start)
    (e : Exits x y t u (result_piece op (view x))) where
  pub by_sto : y.cpu.pc ≡ STO → StoresResult y z u w → RunsRow op bound_of_alu_row x z t w
  by_sto at d s place source o a operands =
      let v : View = view x in
      let c : Changes = unchanged (gone_on s) in
      let P : Result Changes Reason → Type 0 = λ r. ReachesWithin 50 x z t w GSTEP (SeesResult r) in
      ⊎_elim
      (λ (m : Plain op s place source (result_piece op v)).
      let a1 = comes {Q = Storing c (row_width s) place m.number} e (record { within = m.within; to_is = m.to; holds = m.storing }) in
      let a2 = comes_on 3 45 a1 (d c (row_width s) place m.number a1.holds) refl in
      subst P (sym m.is) (comes_as 50 (SeesFinished (with_value (row_width s) place m.number c)) a2 (omega arith) (λ q h. h)))
      (λ (m : Flagged op s place source (result_piece op v)). let pc = e.is_at.pc in let to = m.to in absurd (omega arith))
      (MadeResults.made v (is_view x is_at.machine) s place source a op f o operands)

  pub by_store : (y.cpu.pc ≡ STO → ⊥) → StoresWithStatus y z u w → RunsRow op bound_of_alu_row x z t w
  by_store away d s place source o a operands =
      let v : View = view x in
      let c : Changes = unchanged (gone_on s) in
      let P : Result Changes Reason → Type 0 = λ r. ReachesWithin 50 x z t w GSTEP (SeesResult r) in
      ⊎_elim
      (λ (m : Plain op s place source (result_piece op v)). absurd (away (e.is_at.pc ∙ m.to)))
      (λ (m : Flagged op s place source (result_piece op v)).
      let a1 = comes {Q = Storing c (row_width s) place m.number} e (record { within = m.within; to_is = m.to; holds = m.storing }) in
      let r12 : (view y).r.r12 ≡ join m.status 0 = ap (λ (q : View). q.r.r12) e.shows ∙ m.keeps in
      let a2 = comes_on 6 44 a1 (d c (row_width s) place m.number m.status a1.holds r12) refl in
      subst P (sym m.is) (comes_as 50 (SeesFinished (with_status m.status (with_value (row_width s) place m.number c))) a2 (omega arith) (λ q h. h)))
      (MadeResults.made v (is_view x is_at.machine) s place source a op f o operands)
