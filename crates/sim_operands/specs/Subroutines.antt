-- What the subroutines do, in the words of GPL.
use Rattle.std.specs.Prelude.{ℕ, ◌==◌, ◌≡◌, Bool, Err, false, if◌then◌else◌, List, not, Ok, Result}
use Rattle.std.specs.Prelude.{slice_index}
use Rattle.sim_view.specs.Prelude.{Byte, Changes, ReachesWithin, Cpu, Exit, GplState, GromState, GSTOP, join}
use Rattle.sim_view.specs.Prelude.{MachineState}
use Rattle.sim_view.specs.Prelude.{next_in_grom, number_of, operand_at, Place, place_of, previous_in_grom, Reason}
use Rattle.sim_view.specs.Prelude.{Space, unchanged, value_at, Vdp, View, view, with_register, with_value}
use Rattle.sim_view.specs.gpl_defs.Reading.{value_at as value_in}
use Rattle.sim_operands.specs.Values.{in_register, number_of_space, of_register, width_in}
use Rattle.sim_operands.specs.Pieces.{exit, return_of}
use Rattle.sim_view.specs.Bounds.{bound_of_address, bound_of_load}
use Rattle.sim_view.specs.Bounds.{bound_of_register_store, bound_of_store, bound_of_stream}

-- the state of GPL that a view shows
abbrev pub state_of : View → GplState
state_of v =
    record {
      cells = v.cells;
      vdp = v.vdp.memory;
      registers = v.vdp.registers;
      pc = previous_in_grom v.grom.counter;
      image = v.grom.image;
    }

-- the address of the byte that the GROMs give next
abbrev pub next_at : View → ℕ
next_at v = (state_of v).pc

-- GROMs that give the byte at an address next, with no half of an address written
abbrev pub grom_at : List ℕ → ℕ → GromState
grom_at image at =
    record { image = image; counter = next_in_grom at; fetched = slice_index image at; half_written = false }

-- FETCH: the next byte of GROM, in the high half of register 6.
abbrev pub fetched : View → Exit
fetched v =
    exit 3 (return_of v) (record v {
      r = record v.r { r6 = join (slice_index v.grom.image (next_at v)) 0 };
      grom = grom_at v.grom.image (next_in_grom (next_at v));
    })

-- SEEK: GROM gives the byte at the address in register 6 next.
abbrev pub after_seek : View → Exit
after_seek v = exit 3 (return_of v) (record v { grom = grom_at v.grom.image v.r.r6 })

-- ADDR. An address in register 2, the form of an operand or its space in register 5, and what GROM gives next;
-- registers 4 and 6 may have changed.
pub record Addressed (v : View) (address form next : ℕ) (w : View) : Type 0 where
  pub r4 : ℕ
  pub r6 : ℕ
  pub is : w ≡ record v {
    r = record v.r { r2 = address; r4 = r4; r5 = form; r6 = r6 };
    grom = grom_at v.grom.image next;
  }

-- A place in registers 2 and 5.
abbrev pub Placed : View → ℕ → Place → View → Type 0
Placed v next place w = Addressed v place.address (number_of_space place.space) next w

-- The reason of a stop in register 0; registers 2, 4, 5 and 6 and what GROM gives next may have changed.
pub record OperandStop (v : View) (reason : Reason) (w : View) : Type 0 where
  pub r2 : ℕ
  pub r4 : ℕ
  pub r5 : ℕ
  pub r6 : ℕ
  pub next : ℕ
  pub is : w ≡ record v {
    r = record v.r { r0 = number_of reason; r2 = r2; r4 = r4; r5 = r5; r6 = r6 };
    grom = grom_at v.grom.image next;
  }

-- The place is found, or the reason is given at GSTOP, within as many instructions as ADDR may take.
abbrev pub Finds : MachineState → MachineState → ℕ → ℕ → ℕ → Result Place Reason → Type 0
Finds x y before after next (Ok place) =
    ReachesWithin bound_of_address x y before after (return_of (view x)) (Placed (view x) next place)
Finds x y before after next (Err reason) =
    ReachesWithin bound_of_address x y before after GSTOP (OperandStop (view x) reason)

-- The place of the operand that follows in GROM, for as many bytes as register 3 says.
abbrev pub FindsOperand : MachineState → MachineState → ℕ → ℕ → Type 0
FindsOperand x y before after =
    let v = view x in
    let read = operand_at v.grom.image (next_at v) in
    Finds x y before after read.1 (place_of (state_of v) v.r.r3 read.0)

-- LOAD and STORE. The place that two registers give: its space and its address.
abbrev pub space_numbered : ℕ → Space
space_numbered number = if number == 0 then Cpu else Vdp

abbrev pub place_in : ℕ → ℕ → Place
place_in space address = record { space = space_numbered space; address = address }

-- A number in register 6; register 4, and the address of the video processor with the byte there, may have changed.
pub record Loaded (v : View) (number : ℕ) (w : View) : Type 0 where
  pub r4 : ℕ
  pub address : ℕ
  pub byte : ℕ
  pub is : w ≡ record v {
    r = record v.r { r4 = r4; r6 = in_register (width_in v.r.r3) number };
    vdp = record v.vdp { address = address; fetched = byte };
  }

-- The value at the place in registers 2 and 5, of the width in register 3.
abbrev pub LoadsValue : MachineState → MachineState → ℕ → ℕ → Type 0
LoadsValue x y before after =
    let v = view x in
    ReachesWithin bound_of_load x y before after (return_of v)
    (Loaded v (value_at (state_of v) (width_in v.r.r3) (place_in v.r.r5 v.r.r2)))

-- The value that follows in GROM, of the width in register 3, after which GROM goes on.
abbrev pub streamed : View → View
streamed v =
    let read = value_in (not (v.r.r3 == 1)) v.grom.image (next_at v) in
    record v {
      r = record v.r { r6 = in_register (width_in v.r.r3) read.0 };
      grom = grom_at v.grom.image read.1;
    }

abbrev pub LoadsStream : MachineState → MachineState → ℕ → ℕ → Type 0
LoadsStream x y before after =
    let v = view x in ReachesWithin bound_of_stream x y before after (return_of v) (λ w. w ≡ streamed v)

-- Register 13 is a mark once a byte was stored at the character's cell.
abbrev pub marked_by : Bool → ℕ → ℕ
marked_by shows mark = if shows then 0xFFFF else mark

-- Changes of cells and video memory are made; register 4, and the address of the video processor with the byte there,
-- may have changed.
pub record Stored (v : View) (c : Changes) (w : View) : Type 0 where
  pub r4 : ℕ
  pub address : ℕ
  pub byte : ℕ
  pub is : w ≡ record v {
    r = record v.r { r4 = r4; r13 = marked_by c.shows v.r.r13 };
    cells = c.state.cells;
    vdp = record v.vdp { memory = c.state.vdp; registers = c.state.registers; address = address; fetched = byte };
  }

-- The value in register 9, of the width in register 3, at the place in registers 7 and 8.
abbrev pub StoresValue : MachineState → MachineState → ℕ → ℕ → Type 0
StoresValue x y before after =
    let v = view x in
    let width = width_in v.r.r3 in
    ReachesWithin bound_of_store x y before after (return_of v)
    (Stored v (with_value width (place_in v.r.r8 v.r.r7) (of_register width v.r.r9) (unchanged (state_of v))))

-- The high byte of register 9, in the register of the video processor whose number is in register 7.
abbrev pub StoresRegister : MachineState → MachineState → ℕ → ℕ → Type 0
StoresRegister x y before after =
    let v = view x in
    ReachesWithin bound_of_register_store x y before after (return_of v)
    (Stored v (with_register v.r.r7 (of_register Byte v.r.r9) (unchanged (state_of v))))
