-- Where the copy of MOVE is at each byte, one byte of it, the bytes that are left, and the end.
use Rattle.std.specs.Prelude.{ℕ, ◌%◌, ◌*◌, ◌+◌, ◌-◌, ◌<◌, ◌==◌, ◌≡◌, ◌≤◌, if◌then◌else◌, None, slice_index, suc}
use Rattle.sim_rows.specs.Prelude.{byte_from, ShowsChanges, Changes, ReachesWithin, copied, COPY, Cpu, From, FromGrom}
use Rattle.sim_rows.specs.Prelude.{FromMemory}
use Rattle.sim_rows.specs.Prelude.{grom_at, GSTEP, IsFetched, MachineState, marked_by, next_from, next_in_vdp, next_to}
use Rattle.sim_rows.specs.Prelude.{PortsAreIdle, SeesFinished, Space, IsAt, To, ToMemory, Vdp, View, view}
use Rattle.sim_rows.specs.Prelude.{sum_of, VISIBLE_CELLS, with_byte_to, with_pc, Word}
use Rattle.sim_move.specs.Copying.{Copying}
use Rattle.sim_move.specs.CopyPieces.{CellsToCells, CellsToVideo, first_cell, GromToCells, GromToVideo, head_of}
use Rattle.sim_move.specs.CopyPieces.{VideoToCells, VideoToVideo, CopyPath}
use Rattle.sim_rows.specs.sim_view.Bounds.{bound_of_byte, bound_to_end_copy}
use Rattle.sim_rows.specs.native_interp.declared.addresses.TheConstants.{COPYE}

-- A pointer to cells, at which a number of bytes may be, one at least.
pub record Points (pointer bytes : ℕ) : Type 0 where
  pub from : first_cell ≤ pointer
  pub within : pointer + bytes ≤ first_cell + VISIBLE_CELLS
  pub some : 0 < bytes

-- The bytes that are left may go on a way.
abbrev pub MayGo : CopyPath → View → Type 0
MayGo CellsToCells v = Points v.r.r2 v.r.r12 × Points v.r.r7 v.r.r12
MayGo VideoToCells v = Points v.r.r7 v.r.r12
MayGo GromToCells v = Points v.r.r7 v.r.r12
MayGo CellsToVideo v = Points v.r.r2 v.r.r12
MayGo GromToVideo v = 0 < v.r.r12
MayGo VideoToVideo v = 0 < v.r.r12

-- The bytes that are left go by the routines LOAD and STORE, to registers.
pub record ByRoutines (v : View) : Type 0 where
  pub bytes_are : v.r.r3 ≡ 1
  pub some : 0 < v.r.r12
  pub source : v.r.r5 ≡ 0 → v.r.r2 + v.r.r12 ≤ VISIBLE_CELLS
  pub beyond : 1 < v.r.r8
  pub registers : v.r.r7 + v.r.r12 ≤ 8
  pub fetched : IsFetched v.grom

-- Where a byte is copied: at COPY by the routines, or at the head of its way; with none left, at COPYE.
pub data CopiesAt (place : ℕ) (v : View) : Type 0 where
  AtByte : place ≡ COPY → ByRoutines v → CopiesAt place v
  AtHead : (way : CopyPath) → place ≡ head_of way → MayGo way v → CopiesAt place v
  AtEnd : place ≡ COPYE → v.r.r12 ≡ 0 → CopiesAt place v

-- Where a byte is copied, or the copy ends.
pub record AtCopy (x : MachineState) : Type 0 where
  pub is_at : IsAt x x.cpu.pc
  pub place : CopiesAt x.cpu.pc (view x)
  pub idle : PortsAreIdle x.cpu.memory

-- The source and the target of a way, by their addresses.
abbrev pub in_memory : Space → ℕ → From
in_memory space address = FromMemory (record { space = space; address = address })

abbrev pub to_memory : Space → ℕ → To
to_memory space address = ToMemory (record { space = space; address = address })

abbrev pub from_on : CopyPath → ℕ → From
from_on CellsToCells address = in_memory Cpu address
from_on VideoToCells address = in_memory Vdp address
from_on GromToCells address = FromGrom address
from_on CellsToVideo address = in_memory Cpu address
from_on GromToVideo address = FromGrom address
from_on VideoToVideo address = in_memory Vdp address

abbrev pub to_on : CopyPath → ℕ → To
to_on CellsToCells address = to_memory Cpu address
to_on VideoToCells address = to_memory Cpu address
to_on GromToCells address = to_memory Cpu address
to_on CellsToVideo address = to_memory Vdp address
to_on GromToVideo address = to_memory Vdp address
to_on VideoToVideo address = to_memory Vdp address

-- What is seen on a way: the changes so far, the bytes that are left, the mark, both pointers, or words that set the
-- video processor, its address with the byte there, and where GROM is.
abbrev pub seen : View → Changes → ℕ → ℕ → ℕ → ℕ → ℕ → ℕ → ℕ → View
seen v c bytes mark source target address byte next =
    record v {
      r = record v.r { r2 = source; r7 = target; r12 = bytes; r13 = mark };
      cells = c.state.cells;
      vdp = record {
        memory = c.state.vdp;
        registers = c.state.registers;
        address = address;
        fetched = byte;
        held = None;
      };
      grom = grom_at c.state.image next;
    }

abbrev pub seen_on : CopyPath → View → Changes → ℕ → ℕ → ℕ → ℕ → View
seen_on CellsToCells v c bytes mark from to =
    seen v c bytes mark (first_cell + from) (first_cell + to) v.vdp.address v.vdp.fetched c.state.pc
seen_on VideoToCells v c bytes mark from to =
    let at = from % 16384 in
    seen v c bytes mark v.r.r2 (first_cell + to) (next_in_vdp at) (slice_index c.state.vdp at) c.state.pc
seen_on GromToCells v c bytes mark from to =
    seen v c bytes mark v.r.r2 (first_cell + to) v.vdp.address v.vdp.fetched from
seen_on CellsToVideo v c bytes mark from to =
    seen v c bytes mark (first_cell + from) v.r.r7 (to % 16384) v.vdp.fetched c.state.pc
seen_on GromToVideo v c bytes mark from to = seen v c bytes mark v.r.r2 v.r.r7 (to % 16384) v.vdp.fetched from
seen_on VideoToVideo v c bytes mark from to =
    let at = sum_of Word (to % 16384) 0x4000 in
    seen v c bytes mark (from % 16384) at v.vdp.address v.vdp.fetched c.state.pc

-- Where the instruction goes on: register 5 has the space of the source, and after one in GROM register 14 has the
-- address of the next instruction.
abbrev pub GoesBack : Changes → From → View → Type 0
GoesBack c (FromMemory place) v = v.r.r5 < 2
GoesBack c (FromGrom address) v = (v.r.r5 ≡ 2) × (v.r.r14 ≡ c.state.pc)

-- A copy stands on a way. Its mark is there before the bytes are.
pub record OnWay (way : CopyPath) (c : Changes) (from : From) (to : To) (bytes : ℕ) (v : View) : Type 0 where
  pub base : View
  pub source : ℕ
  pub target : ℕ
  pub from_is : from ≡ from_on way source
  pub to_is : to ≡ to_on way target
  pub back : GoesBack c from base
  pub is : v ≡ seen_on way base c bytes (marked_by (copied bytes from to c).shows 0) source target

-- All bytes are copied, from a place in memory or out of GROM.
pub data Copied (c : Changes) (v : View) : Type 0 where
  FromPlace : v.r.r5 < 2 → ShowsChanges c v → Copied c v
  OutOfGrom : v.r.r5 ≡ 2 → v.r.r14 ≡ c.state.pc → (next : ℕ) → ShowsChanges (with_pc next c) v
      → Copied c v

-- A copy is at a place.
pub data CopyingAt (place : ℕ) (c : Changes) (from : From) (to : To) (bytes : ℕ) (v : View) : Type 0 where
  CopyingByRoutines : place ≡ COPY → Copying c from to bytes v → CopyingAt place c from to bytes v
  CopyingOnWay : (way : CopyPath) → place ≡ head_of way → OnWay way c from to bytes v
      → CopyingAt place c from to bytes v
  AllCopied : place ≡ COPYE → bytes ≡ 0 → Copied c v → CopyingAt place c from to bytes v

-- How many instructions of the beginning the first byte of a way is charged with.
abbrev pub charged : ℕ → ℕ
charged place = if place == COPY then 0 else if place == COPYE then 0 else 11

-- A byte is copied, and the machine is where the next one is.
pub record CopiesByte (x y : MachineState) (before after : ℕ) : Type 0 where
  pub at : AtCopy y
  pub left : (view y).r.r12 ≡ (view x).r.r12 - 1
  pub most : ℕ
  pub comes : ReachesWithin most x y before after y.cpu.pc (λ v. Unit {0})
  pub within : most + charged x.cpu.pc ≤ bound_of_byte + charged y.cpu.pc
  pub copies : (c : Changes) → (from : From) → (to : To) → (bytes : ℕ)
      → CopyingAt x.cpu.pc c from to (suc bytes) (view x)
      → CopyingAt y.cpu.pc (with_byte_to to (byte_from from c.state) c) (next_from from) (next_to to) bytes (view y)

-- All bytes are copied that are left.
pub record CopiesRest (x y : MachineState) (before after : ℕ) : Type 0 where
  pub most : ℕ
  pub comes : ReachesWithin most x y before after COPYE (λ v. Unit {0})
  pub within : most + charged x.cpu.pc ≤ bound_of_byte * (view x).r.r12
  pub copies : (c : Changes) → (from : From) → (to : To) → (bytes : ℕ)
      → CopyingAt x.cpu.pc c from to bytes (view x) → (view x).r.r12 ≡ bytes
      → Copied (copied bytes from to c) (view y)

-- The step ends with what was copied.
abbrev pub EndsCopy : MachineState → MachineState → ℕ → ℕ → Type 0
EndsCopy x y before after =
    (c : Changes) → Copied c (view x) → ReachesWithin bound_to_end_copy x y before after GSTEP (SeesFinished c)
