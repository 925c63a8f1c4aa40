-- Views of the interpreter's machine at the beginning of a step, at its dispatch, and at the ends of a program.
use Rattle.std.specs.Prelude.{ℕ, ◌≡◌, Bool, None, Option, slice_index, IsTrue}
use Rattle.sim_view.specs.Prelude.{address_register, code_register, GplOperation, GplState, listed, MachineState}
use Rattle.sim_view.specs.Prelude.{next_in_grom, number_of, operation_at, operation_entry, previous_in_grom, Reason}
use Rattle.sim_view.specs.Prelude.{IsAt, View, view}
use Rattle.sim_operands.specs.Subroutines.{grom_at, state_of}

-- A view shows a state; GROM gives the byte at an address next, and both ports are idle.
pub record ShowsState (s : GplState) (next : ℕ) (w : View) : Type 0 where
  pub cells : w.cells ≡ s.cells
  pub vdp : w.vdp.memory ≡ s.vdp
  pub registers : w.vdp.registers ≡ s.registers
  pub held : w.vdp.held ≡ None
  pub grom : w.grom ≡ grom_at s.image next

-- At the dispatch of a step: the code byte was read, and two registers hold it and its address.
pub record Dispatched (s : GplState) (w : View) : Type 0 where
  pub sees : ShowsState s (next_in_grom s.pc) w
  pub code : slice_index (listed w.r) code_register ≡ slice_index s.image s.pc
  pub address : slice_index (listed w.r) address_register ≡ s.pc

-- the state that a view shows there, with the address of the code byte
abbrev pub state_at_dispatch : View → GplState
state_at_dispatch w = record (state_of w) { pc = previous_in_grom (state_of w).pc }

-- The code byte of a state, its operation, and the address after it.
abbrev pub code_byte : GplState → ℕ
code_byte s = slice_index s.image s.pc

abbrev pub operation_in : GplState → Option GplOperation
operation_in s = operation_at (code_byte s)

abbrev pub after_code : GplState → ℕ
after_code s = next_in_grom s.pc

-- the operation of the code byte that is shown at dispatch
abbrev pub operation_in_view : View → Option GplOperation
operation_in_view w = operation_in (state_at_dispatch w)

-- A machine at the dispatch of a step, at the entry of its operation, which is one of a family.
pub record AtDispatch (belongs : Option GplOperation → Bool) (x : MachineState) : Type 0 where
  pub is_at : IsAt x (operation_entry (operation_in_view (view x)))
  pub dispatched : Dispatched (state_at_dispatch (view x)) (view x)
  pub family : IsTrue (belongs (operation_in_view (view x)))

-- What is seen where a program ends.
pub record ShowsEnd (s : GplState) (w : View) : Type 0 where
  pub cells : w.cells ≡ s.cells
  pub vdp : w.vdp.memory ≡ s.vdp
  pub registers : w.vdp.registers ≡ s.registers
  pub image : w.grom.image ≡ s.image
  pub address : w.r.r1 ≡ s.pc

pub record StoppedBy (s : GplState) (reason : Reason) (w : View) : Type 0 where
  pub ended : ShowsEnd s w
  pub reason_is : w.r.r0 ≡ number_of reason
