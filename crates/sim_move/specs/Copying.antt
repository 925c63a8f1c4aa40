-- The copy of MOVE, for all sources, targets and numbers of bytes that may be there.
use Rattle.std.specs.Prelude.{ℕ, ◌*◌, ◌+◌, ◌<◌, ◌≡◌, ◌≤◌, None}
use Rattle.sim_rows.specs.Prelude.{Changes, ReachesWithin, copied, From, FromGrom, FromMemory, grom_at, GSTEP}
use Rattle.sim_rows.specs.Prelude.{IsFetched, LoadsFrom, MachineState, marked_by, MOVEB, Place, PortsAreIdle}
use Rattle.sim_rows.specs.Prelude.{SeesFinished, IsAt, StoresTo, To, ToMemory, ToRegisters, View, view, VISIBLE_CELLS}
use Rattle.sim_rows.specs.sim_view.Bounds.{most_beside_bytes, bound_of_byte}

-- A source in memory: its place is in registers 2 and 5, and GROM gives the byte of the next instruction.
pub record InMemory (c : Changes) (place : Place) (w : View) : Type 0 where
  pub loads_from : LoadsFrom place w
  pub grom : w.grom ≡ grom_at c.state.image c.state.pc

-- A source in GROM, which gives its byte next: register 5 says so, and register 14 has the address of the next
-- instruction.
pub record InGrom (c : Changes) (address : ℕ) (w : View) : Type 0 where
  pub space : w.r.r5 ≡ 2
  pub grom : w.grom ≡ grom_at c.state.image address
  pub back : w.r.r14 ≡ c.state.pc

abbrev pub HoldsSource : Changes → From → View → Type 0
HoldsSource c (FromMemory place) w = InMemory c place w
HoldsSource c (FromGrom address) w = InGrom c address w

-- A target among the registers of the video processor: its number is in register 7, and register 8 says so.
pub record StoresToRegister (number : ℕ) (w : View) : Type 0 where
  pub number_is : w.r.r7 ≡ number
  pub space : w.r.r8 ≡ 2

-- A target in memory: its place is in registers 7 and 8.
abbrev pub HoldsTarget : To → View → Type 0
HoldsTarget (ToMemory place) w = StoresTo place w
HoldsTarget (ToRegisters number) w = StoresToRegister number w

-- Where a copy stands: the changes so far are seen, both ports are idle, register 13 is a mark where a byte was stored
-- at the character's cell, and register 12 has the number of bytes that are left.
pub record Copying (c : Changes) (from : From) (to : To) (bytes : ℕ) (w : View) : Type 0 where
  pub cells : w.cells ≡ c.state.cells
  pub vdp : w.vdp.memory ≡ c.state.vdp
  pub registers : w.vdp.registers ≡ c.state.registers
  pub held : w.vdp.held ≡ None
  pub mark : w.r.r13 ≡ marked_by c.shows 0
  pub holds_source : HoldsSource c from w
  pub holds_target : HoldsTarget to w
  pub left : w.r.r12 ≡ bytes

-- At MOVEB the copy may begin: no register names what is not there.
pub record MayCopy (x : MachineState) : Type 0 where
  pub is_at : IsAt x MOVEB
  pub idle : PortsAreIdle x.cpu.memory
  pub fetched : IsFetched x.cpu.memory.grom
  pub source : let r = (view x).r in r.r5 ≡ 0 → r.r2 + r.r12 ≤ VISIBLE_CELLS
  pub target : let r = (view x).r in r.r8 ≡ 0 → r.r7 + r.r12 ≤ VISIBLE_CELLS
  pub registers : let r = (view x).r in 1 < r.r8 → r.r7 + r.r12 ≤ 8

-- All bytes are copied, and the step ends.
abbrev pub CopiesBytes : MachineState → MachineState → ℕ → ℕ → Type 0
CopiesBytes x y before after =
    (c : Changes) → (from : From) → (to : To) → (bytes : ℕ) → Copying c from to bytes (view x)
    → ReachesWithin (bound_of_byte * bytes + most_beside_bytes) x y before after GSTEP
    (SeesFinished (copied bytes from to c))
