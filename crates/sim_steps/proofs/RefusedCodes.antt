-- The code bytes that stop.
use Rattle.std.proofs.Common.{ℕ, ◌≡◌, ap, arith, Err, refl}
use Rattle.sim_rows.proofs.Common.{bound, bound_stop, comes, Dispatched, Exits, Goes, goes_in, GplState, GromState, GSTOP, is_turn_end, MachineState, bound_to_dispatch, Opcode}
use Rattle.sim_rows.proofs.Common.{from_dispatch, reaches, IsAt, step, Stopped, StoppedBy, stops, Turned, turned_by, UNKN, view}
use Rattle.sim_steps.specs.Pieces as pieces

module _ (s : GplState) (x y : MachineState) (t u : ℕ) (d : Dispatched s (view x)) where
  -- a code byte that is no instruction's
  pub refuses : step s ≡ Err Opcode → IsAt x UNKN → Exits x y t u (pieces.stop_code (view x)) → Turned s x y (from_dispatch t u) (Stopped Opcode)
  refuses is is_at run =
      let h = d.sees in
      let ended : Goes (pieces.stop_code (view x)) 2 GSTOP (StoppedBy s Opcode) =
      goes_in (omega arith) (record {
        ended = record {
          cells = h.cells;
          vdp = h.vdp;
          registers = h.registers;
          image = ap (λ (g : GromState). g.image) h.grom;
          address = d.address;
        };
        reason_is = refl;
      }) in
      let c = comes run ended in
      let b = bound_stop s Opcode is in
      turned_by x y t u bound_to_dispatch (Stopped Opcode) s (Err Opcode) is
      (refl, reaches bound_to_dispatch (bound s) c (ap is_turn_end is_at.pc) refl (omega arith), stops s Opcode y (λ e. cc) c.is_at c.holds)
