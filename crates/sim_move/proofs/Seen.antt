-- The view while the parts of MOVE are found, written out: so what its registers hold is known without a proof.
use Rattle.std.proofs.Common.{ℕ, ◌≡◌, ◌≤◌, ap, None, refl, subst, sym}
use Rattle.sim_rows.proofs.Common.{after_code, code_byte, Dispatched, GplState, grom_at, number_of}
use Rattle.sim_rows.proofs.Common.{number_of_space, operand_at, place_of, Placed, previous-next, Reason}
use Rattle.sim_rows.proofs.Common.{return_of, StoppedBy, To, ToMemory, ToRegisters, View}
use Rattle.sim_rows.specs.sim_view.Prelude.{HoldsBytes}
use Rattle.sim_rows.specs.sim_operands.Routines.{find_operand}
use Rattle.sim_rows.proofs.sim_operands.Ends.{ends_as, EndsBy}
use Rattle.sim_rows.proofs.sim_operands.FoundPlaces.{operand_goes}
use Rattle.sim_move.specs.Rows.{IsReady}

-- The view while the parts of MOVE are found: the state is seen, and GROM gives the byte at an address next; registers 0
-- and 1 have the code byte and its address, and no byte was stored. All else is as in another view.
abbrev pub seen : GplState → ℕ → View → View
seen s next u = record u {
  r = record u.r { r0 = code_byte s; r1 = s.pc; r13 = 0 };
  cells = s.cells;
  vdp = record u.vdp { memory = s.vdp; registers = s.registers; held = None };
  grom = grom_at s.image next;
}

-- At MOVEL the length is in register 6.
abbrev pub LengthFound : GplState → ℕ → ℕ → View → Type 0
LengthFound s next count w = w ≡ seen s next (record w { r = record w.r { r6 = count } })

-- How a target is in registers 7 and 8: an address and its space, or the number of a register, and 2.
abbrev pub number_to : To → ℕ
number_to (ToMemory place) = place.address
number_to (ToRegisters number) = number

abbrev pub space_to : To → ℕ
space_to (ToMemory place) = number_of_space place.space
space_to (ToRegisters number) = 2

abbrev pub stood : ℕ × To → View → View
stood found u = record u { r = record u.r { r7 = number_to found.1; r8 = space_to found.1; r12 = found.0 } }

-- At MOVES the target is there, and the length is in register 12.
abbrev pub TargetFound : GplState → ℕ → ℕ × To → View → Type 0
TargetFound s next found w = w ≡ seen s next (stood found w)

-- At MOVEX so is the address of a source in GROM, with its index, in register 2.
abbrev pub SourceFound : GplState → ℕ → ℕ × To → ℕ → View → Type 0
SourceFound s next found address w = w ≡ seen s next (stood found (record w { r = record w.r { r2 = address } }))

-- at the dispatch, whatever register 13 holds
abbrev pub dispatch_view : GplState → View → View
dispatch_view s u = record u {
  r = record u.r { r0 = code_byte s; r1 = s.pc };
  cells = s.cells;
  vdp = record u.vdp { memory = s.vdp; registers = s.registers; held = None };
  grom = grom_at s.image (after_code s);
}

pub dispatched_is : (s : GplState) (v : View) → Dispatched s v → v ≡ dispatch_view s v
dispatched_is s v d = λ i. record v {
  r = record v.r { r0 = d.code i; r1 = d.address i };
  cells = d.sees.cells i;
  vdp = record v.vdp { memory = d.sees.vdp i; registers = d.sees.registers i; held = d.sees.held i };
  grom = d.sees.grom i;
}

pub ready_at : (s : GplState) (at : ℕ) (u : View) → IsReady (seen s at u)
ready_at s at u = ap (grom_at s.image) (sym (previous-next at))

-- A stop shows the state and its reason.
pub halted : (s : GplState) (next : ℕ) (reason : Reason) (u : View) →
    StoppedBy s reason (record (seen s next u) { r = record (seen s next u).r { r0 = number_of reason } })
halted s next reason u = record {
  ended = record { cells = refl; vdp = refl; registers = refl; image = refl; address = refl };
  reason_is = refl;
}

-- the place of an operand
pub operand_found : (s : GplState) (at : ℕ) (u : View) → HoldsBytes 65536 s.image → u.r.r3 ≤ 16384 →
    (let read = operand_at s.image at in
    EndsBy (find_operand (seen s at u)) 38 (return_of u) (Placed (seen s at u) read.1) (StoppedBy s)
    (place_of s u.r.r3 read.0))
operand_found s at u bytes few =
    let v = seen s at u in
    let read = operand_at s.image at in
    ends_as (place_of s u.r.r3 read.0) (operand_goes v at refl bytes few)
    (λ reason w a. subst (StoppedBy s reason) (sym a.is) (halted s a.next reason
    (record u { r = record u.r { r2 = a.r2; r4 = a.r4; r5 = a.r5; r6 = a.r6 } })))
