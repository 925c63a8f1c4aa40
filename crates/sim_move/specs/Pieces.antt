-- What the pieces of MOVE do up to the copy: how many instructions they have, where they end, and what they change
-- of the view, in the words of the processor. Registers, cells and ports that are not named stay.
use Rattle.std.specs.Prelude.{ℕ, if◌then◌else◌, nat_lt}
use Rattle.sim_rows.specs.Prelude.{ADDR, conjunction_of, Exit, exit, GSTOP, INDEX, last_out, LOAD, MOVEA, MOVEB}
use Rattle.sim_rows.specs.Prelude.{MOVED, MOVEK, MOVEL, MOVEN, MOVER, MOVES, MOVEW, MOVEX, past, SEEK, shifted, SRL}
use Rattle.sim_rows.specs.Prelude.{STREAM, sum_of, View, WHERE, Word}

-- GOMOVE: where the code byte is even, ADDR is asked for the operand that holds the length.
abbrev pub request_length : View → Exit
request_length v =
    let begun = record v { r = record v.r { r3 = 2; r4 = shifted SRL v.r.r0 1; r5 = 2; r13 = 0 } } in
    if last_out SRL v.r.r0 1
    then exit 6 MOVEN begun
    else exit 7 ADDR (record begun { r = record begun.r { r11 = MOVEN } })

-- MOVEN: LOAD is asked for the length.
abbrev pub load_length : View → Exit
load_length v = exit 1 LOAD (record v { r = record v.r { r11 = MOVEL } })

-- MOVEL: the length is kept if it is not above 16,384. From code byte >38 on the target are
-- registers, else ADDR is asked for it.
abbrev pub keep_length : View → Exit
keep_length v =
    let kept = record v { r = record v.r { r3 = v.r.r6; r12 = v.r.r6 } } in
    if nat_lt 0x4000 v.r.r6
    then exit 4 GSTOP (record v { r = record v.r { r0 = 4 } })
    else if nat_lt v.r.r0 0x38
    then exit 7 ADDR (record kept { r = record kept.r { r11 = MOVED } })
    else exit 6 MOVER kept

-- MOVED: the place becomes the one to store to. Below code byte >34 the source is in GROM, else ADDR is asked for it.
abbrev pub keep_target : View → Exit
keep_target v =
    let kept = record v { r = record v.r { r7 = v.r.r2; r8 = v.r.r5 } } in
    if nat_lt v.r.r0 0x34
    then exit 4 MOVES kept
    else exit 5 ADDR (record kept { r = record kept.r { r11 = MOVEB } })

-- MOVER: the number of the first register is read; the registers are the target if the last of them is there.
abbrev pub check_registers : View → Exit
check_registers v =
    let end = sum_of Word v.grom.fetched v.r.r6 in
    let read = record v { r = record v.r { r4 = end; r7 = v.grom.fetched }; grom = past v.grom } in
    if nat_lt 8 end
    then exit 9 GSTOP (record read { r = record read.r { r0 = 5 } })
    else exit 8 MOVES (record read { r = record read.r { r8 = 2 } })

-- MOVES: STREAM is asked for the address in GROM.
abbrev pub request_source : View → Exit
request_source v = exit 2 STREAM (record v { r = record v.r { r3 = 2; r11 = MOVEA } })

-- MOVEA: INDEX is asked for the address with its index, if the second lowest bit of the code byte says
-- so, as a place that has no range.
abbrev pub form_of : ℕ → ℕ
form_of code = sum_of Word (conjunction_of code 2) 1

abbrev pub request_index : View → Exit
request_index v = exit 5 INDEX (record v { r = record v.r { r2 = v.r.r6; r5 = form_of v.r.r0; r11 = MOVEX } })

-- MOVEX: WHERE is asked for the next address.
abbrev pub request_next : View → Exit
request_next v = exit 1 WHERE (record v { r = record v.r { r11 = MOVEW } })

-- MOVEW: it is kept, and SEEK is asked for the address of the source.
abbrev pub seek_source : View → Exit
seek_source v = exit 3 SEEK (record v { r = record v.r { r6 = v.r.r2; r11 = MOVEK; r14 = v.r.r6 } })

-- MOVEK: the bytes to copy are those that follow in GROM.
abbrev pub turn_to_grom : View → Exit
turn_to_grom v = exit 2 MOVEB (record v { r = record v.r { r5 = 2 } })
