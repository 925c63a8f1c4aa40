-- What the pieces of a step up to its dispatch, of the operands of a row and of the end of a row do: how many
-- instructions they have, where they end, and what they change of the view, in the words of the processor. Registers,
-- cells and ports that are not named stay.
use Rattle.std.specs.Prelude.{ℕ, Bool, ◌+◌, ◌-◌, ◌/◌, ◌==◌, if◌then◌else◌, nat_lt, slice_index}
use Rattle.sim_view.specs.Prelude.{ADDR, CHARACTER, COLUMN, conjunction_of, difference_of, even, Exit, GO}
use Rattle.sim_view.specs.Prelude.{grom_address_read, GromState, GSTEP, INTERP, join, last_out, LOAD, low, OPTAB}
use Rattle.sim_view.specs.Prelude.{OPVAL, origin, shifted, SHOW, SLA, SRL, STORE, STREAM, sum_of, TABLE, View, Word}
use Rattle.sim_view.specs.base_defs.declared.size.TheConstants.{GROM_SIZE}
use Rattle.sim_view.specs.gpl_step_defs.declared.cells.TheConstants.{ROW}
use Rattle.sim_operands.specs.Pieces.{exit, one_if, past, return_of, with_grom_address}
use Rattle.sim_view.specs.native_interp.declared.addresses.TheConstants.{OPSDST, OPSTWO, OPSVAL, STDST, WIDDST, WIDVAL}

-- the numbers of the first words of both tables, among the words of the interpreter
abbrev pub first_entry : ℕ
first_entry = (TABLE - origin) / 2

abbrev pub first_row : ℕ
first_row = (OPTAB - origin) / 2

-- The GROMs after one read of their address port. Two reads give the counter, and it is lost.
abbrev pub read_once : GromState → GromState
read_once grom = (grom_address_read grom).1

-- Is a counter at the first address of a GROM? Its low 13 bits are 0 then, and one instruction more is taken.
abbrev pub at_first : ℕ → Bool
at_first counter = shifted SLA counter 3 == 0

-- How many instructions more the test of the low 13 bits takes: it is made only where the low byte of the counter is 0.
abbrev pub tested : ℕ → ℕ
tested counter = if low counter == 0 then 3 + one_if (at_first counter) else 0

-- the address before a counter, in its GROM
abbrev pub address_before : ℕ → ℕ
address_before counter =
    difference_of Word (if at_first counter then sum_of Word counter GROM_SIZE else counter) 1

-- GSTEP: the address before the counter comes into register 1, and GROM is set to it again; the byte there comes into
-- register 0, and the first table leads on by it.
abbrev pub dispatch : View → Exit
dispatch v =
    let counter = v.grom.counter in
    let set = with_grom_address (address_before counter) (read_once (read_once v.grom)) in
    let entry = slice_index INTERP (first_entry + set.fetched) in
    exit (12 + tested counter) (even entry) (record v {
      r = record v.r { r0 = set.fetched; r1 = address_before counter; r4 = entry };
      grom = past set;
    })

-- WHERE: the address before the counter comes into register 6.
abbrev pub where_next : View → Exit
where_next v =
    let counter = v.grom.counter in
    exit (7 + one_if (at_first counter)) (return_of v) (record v {
      r = record v.r { r4 = shifted SLA counter 3; r6 = address_before counter };
      grom = read_once (read_once v.grom);
    })

-- ROW, STROW and WIDE: the place of the first operand is asked for, of a number of bytes; nothing was stored yet.
abbrev pub request_place : ℕ → ℕ → ℕ → View → Exit
request_place count bytes link v = exit count ADDR (record v { r = record v.r { r3 = bytes; r11 = link; r13 = 0 } })

abbrev pub width_of_code : ℕ → ℕ
width_of_code code = sum_of Word (conjunction_of code 1) 1

abbrev pub twice_of_code : ℕ → ℕ
twice_of_code code = sum_of Word (shifted SRL (shifted SLA code 15) 14) 2

abbrev pub request_first : View → Exit
request_first v = request_place 5 (width_of_code v.r.r0) OPSDST v

abbrev pub request_stored : View → Exit
request_stored v = request_place 5 (width_of_code v.r.r0) STDST v

abbrev pub request_wide : View → Exit
request_wide v = request_place 6 (twice_of_code v.r.r0) WIDDST v

-- OPSDST and WIDDST: the value there is asked for, and the place is kept as the destination.
abbrev pub load_kept : ℕ → View → Exit
load_kept link v = exit 3 LOAD (record v { r = record v.r { r7 = v.r.r2; r8 = v.r.r5; r11 = link } })

abbrev pub load_first : View → Exit
load_first v = load_kept OPSVAL v

abbrev pub load_wide : View → Exit
load_wide v = load_kept WIDVAL v

-- STDST: the place is kept as the destination.
abbrev pub keep_stored : View → Exit
keep_stored v = exit 2 OPSTWO (record v { r = record v.r { r7 = v.r.r2; r8 = v.r.r5 } })

-- OPSVAL: the value is kept; a row of one operand has 1 for the source.
abbrev pub keep_first : View → Exit
keep_first v =
    let kept = record v { r = record v.r { r9 = v.r.r6 } } in
    if nat_lt v.r.r0 0xA0
    then (
    if v.r.r3 == 1
    then exit 6 GO (record kept { r = record kept.r { r6 = 0x0100 } })
    else exit 7 GO (record kept { r = record kept.r { r6 = 1 } })
    )
    else exit 3 OPSTWO kept

-- WIDVAL: the value is kept, and the source has half the bytes.
abbrev pub keep_wide : View → Exit
keep_wide v = exit 3 OPSTWO (record v { r = record v.r { r3 = shifted SRL v.r.r3 1; r9 = v.r.r6 } })

-- OPSTWO: an immediate source is asked for, or the place of the source.
abbrev pub request_second : View → Exit
request_second v =
    let form = record v { r = record v.r { r4 = shifted SRL v.r.r0 2 } } in
    if last_out SRL v.r.r0 2
    then exit 5 STREAM (record form { r = record form.r { r11 = GO } })
    else exit 4 ADDR (record form { r = record form.r { r11 = OPVAL } })

-- OPVAL: the value of the second operand is asked for.
abbrev pub load_second : View → Exit
load_second v = exit 2 LOAD (record v { r = record v.r { r11 = GO } })

-- GO: the second table leads on by the code byte.
abbrev pub go_to_row : View → Exit
go_to_row v =
    let entry = slice_index INTERP (first_row + (v.r.r0 - 0x80) / 2) in
    exit 3 (even entry) (record v { r = record v.r { r4 = entry } })

-- STO: the value is stored.
abbrev pub store_result : View → Exit
store_result v = exit 2 STORE (record v { r = record v.r { r11 = SHOW } })

-- SHOW: the step ends, or the character's byte is stored on the screen.
abbrev pub show : View → Exit
show v =
    let row = shifted SLA (shifted SRL (join (slice_index v.cells ROW) (low v.r.r7)) 8) 5 in
    let column = shifted SRL (join (slice_index v.cells COLUMN) (low v.r.r4)) 8 in
    if v.r.r13 == 0
    then exit 2 GSTEP v
    else exit 13 STORE (record v {
      r = record v.r {
        r3 = 1;
        r4 = column;
        r7 = sum_of Word row column;
        r8 = 1;
        r9 = join (slice_index v.cells CHARACTER) (low v.r.r9);
        r11 = GSTEP;
      };
    })
