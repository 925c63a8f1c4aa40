-- Jumps, from where their address is known.
use Rattle.std.proofs.Common.{ℕ, ◌<◌, ◌∙◌, ◌≡◌, ap, arith, false, List, refl, slice_index, slice_set}
use Rattle.sim_rows.proofs.Common.{Byte, Changes, comes, comes_on, Exits, Goes, goes_in, GOTO, GplState, grom_at}
use Rattle.sim_rows.proofs.Common.{GromState}
use Rattle.sim_rows.proofs.Common.{GSTEP, is_view, MachineState, ones_cleared, SeesFinished, set_is, ShowsChanges}
use Rattle.sim_rows.proofs.Common.{ShowsState}
use Rattle.sim_rows.proofs.Common.{IsAt, unchanged, View, view, with_condition, with_grom_address, with_pc}
use Rattle.sim_rows.proofs.sim_view.Routines.{Ends, first}
use Rattle.sim_rows.proofs.Routines.{row_ends}
use Rattle.sim_rows.specs.Routines.{end_row}
use Rattle.sim_jumps.specs.Jumps.{GoesOn, TakesBranch}
use Rattle.sim_jumps.specs.Routines.{resume_row}
use Rattle.sim_jumps.specs.Pieces as pieces

-- GROMs that were set from one address to another
pub set_from : (g : GromState) (image : List ℕ) (next word at : ℕ) → g ≡ grom_at image next → word ≡ at → word < 65536 → with_grom_address word g ≡ grom_at image at
set_from g image next word at e to fits =
    ap (with_grom_address word) e ∙ set_is (grom_at image next) word refl fits ∙ ap (grom_at image) to

-- ---- GOTO

pub goes : {x y : MachineState} {t u : ℕ} → IsAt x GOTO → Exits x y t u (pieces.go_to (view x)) → GoesOn x y t u
goes {x = x} is_at e s next h to =
    let v : View = view x in
    comes e (record {
      within = omega arith;
      to_is = refl;
      holds = record {
        cells = h.cells;
        vdp = h.vdp;
        registers = h.registers;
        held = h.held;
        grom = set_from v.grom s.image next v.r.r6 s.pc h.grom to ((is_view x is_at.machine).r 6);
      };
    })

-- ---- TAKE

-- the address is still there
pub record Taken (s : GplState) (next : ℕ) (w : View) : Type 0 where
  pub sees : ShowsState s next w
  pub to : w.r.r6 ≡ s.pc

abbrev status_cleared : List ℕ → List ℕ
status_cleared cells = slice_set cells 0x7C (ones_cleared Byte (slice_index cells 0x7C) 0x20)

pub takes : {x a y : MachineState} {t t1 t2 : ℕ} → Exits x a t t1 (pieces.take_branch (view x)) → GoesOn a y t1 t2 → TakesBranch x y t t2
takes {x = x} e goes s next h to =
    let after : GplState = (with_condition false (unchanged s)).state in
    let taken : Goes (pieces.take_branch (view x)) 3 GOTO (Taken after next) = goes_in (omega arith)
    (record { sees = record { cells = ap status_cleared h.cells; vdp = h.vdp; registers = h.registers; held = h.held; grom = h.grom }; to = to }) in
    let c = comes e taken in
    comes_on 3 2 c (goes after next c.holds.sees c.holds.to) refl

-- ---- RESUME

-- A row whose changes are made ends with them, and GROM goes on where register 14 says.
pub row_resumes : (c : Changes) (next : ℕ) (v : View) → ShowsChanges (with_pc next c) v → v.r.r14 ≡ c.state.pc →
    v.r.r14 < 65536 → Ends (resume_row v) 31 GSTEP (SeesFinished c)
unfolding resume_row
row_resumes c next v h to fits =
    first (pieces.resume v) end_row
    (row_ends c (pieces.resume v).left (record {
      cells = h.cells;
      vdp = h.vdp;
      registers = h.registers;
      held = h.held;
      grom = set_from v.grom c.state.image next v.r.r14 c.state.pc h.grom to fits;
      mark = h.mark;
    }))
