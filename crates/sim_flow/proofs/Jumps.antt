-- EXIT and B.
use Rattle.std.proofs.Common.{ℕ, ◌≡◌, ap, arith, Err, Ok, refl, Some}
use Rattle.sim_rows.proofs.Common.{B, after_code, bound, bound_made, bound_stop, comes, comes_on, Dispatched, ShowsEnd, EXIT, exit, Exit as Ending, Exits, from}
use Rattle.sim_rows.proofs.Common.{GEXIT, GOB, Goes, goes_in, GOEXIT, GOTO, GplState, grom_at, GromState, is_turn_end, Jump, known, leaves, MachineState, matches}
use Rattle.sim_rows.proofs.Common.{from_dispatch, bound_to_dispatch, operation_in, Plain, reaches, ShowsState, IsAt, step_jump, step_plain, Stepped, Stopped, Turned, turned_by}
use Rattle.sim_rows.proofs.Common.{View, view, word_at}
use Rattle.sim_rows.specs.gpl_step_defs.declared.reason.Reason.TheVariants.{Exit}
use Rattle.sim_jumps.specs.Jumps.{GoesOn}
use Rattle.sim_flow.specs.Pieces as pieces

-- EXIT
pub exits : {s : GplState} {x y : MachineState} {t u : ℕ} → Dispatched s (view x) → operation_in s ≡ Some (Plain EXIT) → IsAt x GOEXIT →
    Exits x y t u (pieces.leave (view x)) → Turned s x y (from_dispatch t u) (Stopped Exit)
exits {s = s} {x = x} {y = y} {t = t} {u = u} d e is_at run =
    let is = step_plain s EXIT e in
    let h = d.sees in
    let ended : Goes (pieces.leave (view x)) 1 GEXIT (ShowsEnd s) = goes_in (omega arith)
    (record {
      cells = h.cells;
      vdp = h.vdp;
      registers = h.registers;
      image = ap (λ (g : GromState). g.image) h.grom;
      address = d.address;
    }) in
    let c = comes run ended in
    let b = bound_stop s Exit is in
    turned_by x y t u bound_to_dispatch (Stopped Exit) s (Err Exit) is
    (refl, reaches bound_to_dispatch (bound s) c (ap is_turn_end is_at.pc) refl (omega arith), leaves s y c.is_at c.holds)

-- B
module _ (s : GplState) (v : View) (d : Dispatched s v) where
  abbrev target : ℕ
  target = (word_at s.image (after_code s)).0

  abbrev after : ℕ
  after = (word_at s.image (after_code s)).1

  abbrev next : GplState
  next = record s { pc = target }

  -- the words that follow are read
  abbrev read : View
  read = record v { r = record v.r { r6 = target }; grom = grom_at s.image after }

  read_is : pieces.read_target v ≡ exit 2 GOTO read
  read_is = let at : GromState → Ending = λ g. pieces.read_target (record v { grom = g }) in ap at d.sees.grom

  seen : ShowsState next after read
  seen = let h = d.sees in record { cells = h.cells; vdp = h.vdp; registers = h.registers; held = h.held; grom = refl }

  -- what holds at GOTO
  record AtTarget (w : View) : Type 0 where
    sees : ShowsState next after w
    to : w.r.r6 ≡ target

  pub jumps : {x a y : MachineState} {t t1 t2 : ℕ} → view x ≡ v → operation_in s ≡ Some (Jump B) → IsAt x GOB →
      Exits x a t t1 (pieces.read_target (view x)) → GoesOn a y t1 t2 → Turned s x y (from_dispatch t t2) Stepped
  jumps {x = x} {y = y} {t = t} {t2 = t2} is e is_at e1 goes =
      let at : Goes (exit 2 GOTO read) 2 GOTO AtTarget = record { within = omega arith; to_is = refl; holds = record { sees = seen; to = refl } } in
      let c1 = comes e1 (from pieces.read_target is (known read_is at)) in
      let c2 = comes_on 2 2 c1 (goes next after c1.holds.sees c1.holds.to) refl in
      let step_is = step_jump s B e in
      let m = bound_made s next (Some (Jump B)) e step_is in
      turned_by x y t t2 bound_to_dispatch Stepped s (Ok next) step_is
      (refl, reaches bound_to_dispatch (bound s) c2 (ap is_turn_end is_at.pc) refl (omega arith), matches next y c2.is_at c2.holds)
