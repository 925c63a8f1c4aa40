-- BACK from its dispatch to the end of the step.
use Rattle.std.proofs.Common.{ℕ, ◌∙◌, ◌≡◌, ap, arith, None, Ok, refl, slice_index, slice_set, Some}
use Rattle.sim_rows.proofs.Common.{BACK, after_code, bound, bound_made, comes, Dispatched, Exits, finished, GOBACK, Goes, GplState, GromState, GSTEP, is_turn_end}
use Rattle.sim_rows.proofs.Common.{from_dispatch, MachineState, matches, bound_to_dispatch, next_in_grom, operation_in, past, reaches, ShowsState, IsAt, step_byte, Stepped, Turned}
use Rattle.sim_rows.proofs.Common.{turned_by, unchanged, vdp_address_written, VdpState, View, view, with_register}
use Rattle.sim_rows.specs.gpl_defs.declared.instruction.GplOperation.TheVariants.{Byte}
use Rattle.sim_misc.specs.Pieces as pieces

abbrev next : GplState → GplState
next s = finished (with_register 7 (slice_index s.image (after_code s)) (unchanged (record s { pc = next_in_grom (after_code s) })))

-- the pair of bytes loads register 7
register_set : (vdp : VdpState) (byte : ℕ) → vdp.held ≡ None →
    vdp_address_written (vdp_address_written vdp byte) 0x87 ≡ record vdp { registers = slice_set vdp.registers 7 byte; held = None }
register_set vdp byte idle = rw idle refl

border_goes : (s : GplState) (v : View) → Dispatched s v → Goes (pieces.set_border v) 5 GSTEP (ShowsState (next s) (next s).pc)
border_goes s v d =
    let h = d.sees in
    let set = register_set v.vdp v.grom.fetched h.held in
    record {
      within = omega arith;
      to_is = refl;
      holds = record {
        cells = h.cells;
        vdp = ap (λ (vdp : VdpState). vdp.memory) set ∙ h.vdp;
        registers = ap (λ (vdp : VdpState). vdp.registers) set
            ∙ ap (λ registers. slice_set registers 7 v.grom.fetched) h.registers
            ∙ ap (λ (g : GromState). slice_set s.registers 7 g.fetched) h.grom;
        held = ap (λ (vdp : VdpState). vdp.held) set;
        grom = ap past h.grom;
      };
    }

pub borders : {s : GplState} {x y : MachineState} {t u : ℕ} → Dispatched s (view x) → operation_in s ≡ Some (Byte BACK) → IsAt x GOBACK →
    Exits x y t u (pieces.set_border (view x)) → Turned s x y (from_dispatch t u) Stepped
borders {s = s} {x = x} {y = y} {t = t} {u = u} d is is_at set =
    let c = comes set (border_goes s (view x) d) in
    let step_is = step_byte s BACK is in
    let b = bound_made s (next s) (Some (Byte BACK)) is step_is in
    turned_by x y t u bound_to_dispatch Stepped s (Ok (next s)) step_is
    (refl, reaches bound_to_dispatch (bound s) c (ap is_turn_end is_at.pc) refl (omega arith), matches (next s) y c.is_at c.holds)
