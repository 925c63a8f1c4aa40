-- What the pieces of MOVE's copy do: how many instructions they have, where they end, and what they change of the
-- view, in the words of the processor. Registers, cells and ports that are not named stay.
use Rattle.std.specs.Prelude.{ℕ, ◌+◌, ◌-◌, ◌==◌, Bool, if◌then◌else◌, nat_lt, slice_index, slice_set}
use Rattle.sim_rows.specs.Prelude.{CHARACTER, conjunction_of, COPY, COPYN, COPYS, difference_of, Exit, exit, high, join}
use Rattle.sim_rows.specs.Prelude.{LOAD, low, past, RESUME, shifted, SHOW, SLA, SRL, STORE, sum_of, vdp_data_written}
use Rattle.sim_rows.specs.Prelude.{VdpState, View, with_video_address, Word}
use Rattle.sim_rows.specs.sim_operands.Pieces.{one_if, past_video}
use Rattle.sim_rows.specs.sim_operands.Routines.{go_on, on_at}
use Rattle.sim_rows.specs.native_interp.declared.addresses.TheConstants.{COPYCC, COPYCV, COPYE, COPYGC, COPYGV}
use Rattle.sim_rows.specs.native_interp.declared.addresses.TheConstants.{COPYVC, COPYVV, SETR, SETW}

-- the address of the first cell
abbrev pub first_cell : ℕ
first_cell = 0x8300

-- LOAD and STORE copy each byte to registers
abbrev pub by_routines : View → View
by_routines v = record v { r = record v.r { r3 = 1 } }

-- MOVEB for a target in the cells, whose pointer comes into register 7: register 13 becomes the mark where a byte will
-- go to the character's cell. A source in the cells has its pointer in register 2.
abbrev pub is_marked : View → Bool
is_marked v = nat_lt (difference_of Word CHARACTER v.r.r7) v.r.r12

abbrev pub pointed_at : View → View
pointed_at v =
    record v {
      r = record v.r {
        r4 = difference_of Word CHARACTER v.r.r7;
        r7 = sum_of Word v.r.r7 first_cell;
        r13 = if is_marked v then 0xFFFF else v.r.r13;
      };
    }

abbrev pub from_cells : View → View
from_cells v = record v { r = record v.r { r2 = sum_of Word v.r.r2 first_cell } }

abbrev pub begin_in_cells : View → Exit
begin_in_cells v =
    let marking = one_if (is_marked v) in
    if v.r.r5 == 1 then exit (12 + marking) SETR (pointed_at v)
    else if nat_lt 1 v.r.r5 then exit (13 + marking) COPYGC (pointed_at v)
    else exit (14 + marking) COPYCC (from_cells (pointed_at v))

-- MOVEB: with no byte it goes to COPYE. For video memory SETW goes on, and for registers COPY.
abbrev pub begin_copy : View → Exit
begin_copy v =
    if v.r.r12 == 0 then exit 2 COPYE v
    else if v.r.r8 == 1 then exit 4 SETW v
    else if nat_lt 1 v.r.r8 then exit 6 COPY (by_routines v)
    else begin_in_cells v

-- an address cut to the 14 bits of video memory
abbrev pub video_at : ℕ → ℕ
video_at address = shifted SRL (shifted SLA address 2) 2

-- SETR: the video processor is set to the source, for reading.
abbrev pub set_source : View → Exit
set_source v =
    let at = video_at v.r.r2 in
    exit 5 COPYVC (record v { r = record v.r { r4 = at }; vdp = with_video_address at v.vdp })

-- the words that set the video processor to an address, for reading and for writing
abbrev pub reading_word : ℕ → ℕ
reading_word address = conjunction_of address 0x3FFF

abbrev pub writing_word : ℕ → ℕ
writing_word address = sum_of Word (conjunction_of address 0x3FFF) 0x4000

-- SETVV: a source and a target in video memory become the words that set the video processor to them.
abbrev pub both_set : View → View
both_set v = record v { r = record v.r { r2 = reading_word v.r.r2; r7 = writing_word v.r.r7 } }

-- SETW: the video processor is set to the target, for writing; for a source in video memory too SETVV goes on.
abbrev pub target_set : View → View
target_set v =
    let at = sum_of Word (video_at v.r.r7) 0x4000 in
    record v { r = record v.r { r4 = at }; vdp = with_video_address at v.vdp }

abbrev pub set_target : View → Exit
set_target v =
    if v.r.r5 == 1 then exit 5 COPYVV (both_set v)
    else if v.r.r5 == 0 then exit 11 COPYCV (from_cells (target_set v))
    else exit 10 COPYGV (target_set v)

-- The beginning as a whole: MOVEB, with SETR or SETW after it.
abbrev pub start_copy : View → Exit
start_copy v =
    let begun = begin_copy v in
    on_at SETR begun set_source (go_on SETW begun set_target)

-- The ways on which a byte goes without LOAD and STORE.
pub data CopyPath : Type 0 where
  CellsToCells : CopyPath
  VideoToCells : CopyPath
  GromToCells : CopyPath
  CellsToVideo : CopyPath
  GromToVideo : CopyPath
  VideoToVideo : CopyPath

-- where a byte goes so
abbrev pub head_of : CopyPath → ℕ
head_of CellsToCells = COPYCC
head_of VideoToCells = COPYVC
head_of GromToCells = COPYGC
head_of CellsToVideo = COPYCV
head_of GromToVideo = COPYGV
head_of VideoToVideo = COPYVV

-- how many instructions a byte takes so, but for the last
abbrev pub count_on : CopyPath → ℕ
count_on VideoToVideo = 13
count_on _ = 3

-- The byte at the pointer of the source, and the view when it was read; the view when a byte was stored at the pointer
-- of the target, or in video memory.
abbrev pub cell_read : View → ℕ
cell_read v = slice_index v.cells (v.r.r2 - first_cell)

abbrev pub past_cell : View → View
past_cell v = record v { r = record v.r { r2 = sum_of Word v.r.r2 1 } }

abbrev pub in_cell : ℕ → View → View
in_cell byte v =
    record v {
      r = record v.r { r7 = sum_of Word v.r.r7 1 };
      cells = slice_set v.cells (v.r.r7 - first_cell) byte;
    }

abbrev pub in_video : ℕ → View → View
in_video byte v = record v { vdp = vdp_data_written v.vdp byte }

-- Within video memory register 4 keeps the byte, and the video processor is set to the source and then to the target.
abbrev pub byte_kept : View → ℕ
byte_kept v = join (with_video_address v.r.r2 v.vdp).fetched (low v.r.r4)

abbrev pub video_moved : View → VdpState
video_moved v =
    let read = past_video (with_video_address v.r.r2 v.vdp) in
    vdp_data_written (with_video_address v.r.r7 read) (high (byte_kept v))

abbrev pub within_video : View → View
within_video v =
    record v {
      r = record v.r {
        r2 = reading_word (sum_of Word v.r.r2 1);
        r4 = byte_kept v;
        r7 = writing_word (sum_of Word v.r.r7 1);
      };
      vdp = video_moved v;
    }

abbrev pub byte_moved : CopyPath → View → View
byte_moved CellsToCells v = in_cell (cell_read v) (past_cell v)
byte_moved VideoToCells v = in_cell v.vdp.fetched (record v { vdp = past_video v.vdp })
byte_moved GromToCells v = in_cell v.grom.fetched (record v { grom = past v.grom })
byte_moved CellsToVideo v = in_video (cell_read v) (past_cell v)
byte_moved GromToVideo v = in_video v.grom.fetched (record v { grom = past v.grom })
byte_moved VideoToVideo v = within_video v

-- COPYCC and its like: a byte goes, and the next one, or COPYE after the last.
abbrev pub copy_on : CopyPath → View → Exit
copy_on way v =
    let left = difference_of Word v.r.r12 1 in
    let moved = byte_moved way v in
    exit (count_on way + one_if (left == 0)) (if left == 0 then COPYE else head_of way)
    (record moved { r = record moved.r { r12 = left } })

-- COPY: LOAD is asked for the next byte.
abbrev pub next_byte : View → Exit
next_byte v = exit 1 LOAD (record v { r = record v.r { r11 = COPYS } })

-- COPYS: STORE is asked for the byte.
abbrev pub store_byte : View → Exit
store_byte v = exit 2 STORE (record v { r = record v.r { r9 = v.r.r6; r11 = COPYN } })

-- COPYN: on to the next byte, both where it comes from and where it goes to, or to COPYE after the last.
abbrev pub count_byte : View → Exit
count_byte v =
    exit 4 (if difference_of Word v.r.r12 1 == 0 then COPYE else COPY) (record v {
      r = record v.r {
        r2 = sum_of Word v.r.r2 1;
        r7 = sum_of Word v.r.r7 1;
        r12 = difference_of Word v.r.r12 1;
      };
    })

-- COPYE: the copy ends, with RESUME after a source in GROM.
abbrev pub leave_copy : View → Exit
leave_copy v = exit (if v.r.r5 == 2 then 2 else 3) (if v.r.r5 == 2 then RESUME else SHOW) v
