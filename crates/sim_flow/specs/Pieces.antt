-- What the pieces of EXIT, B, BR, BS and CASE do: how many instructions they have, where they end, and what they
-- change of the view, in the words of the processor. Registers, cells and ports that are not named stay.
use Rattle.std.specs.Prelude.{◌==◌, if◌then◌else◌, slice_index}
use Rattle.sim_rows.specs.Prelude.{BTARG, CASEN, CASET, CFALSE, exclusive_or_of, Exit, exit, GEXIT, GOTO, high, join}
use Rattle.sim_rows.specs.Prelude.{last_out, low, past, SEEK, shifted, SLA, SRL, STATUS, sum_of, TAKE, View}
use Rattle.sim_rows.specs.Prelude.{WHERE, Word}

-- GOEXIT.
abbrev pub leave : View → Exit
leave v = exit 1 GEXIT v

-- GOB: the word that follows is the address.
abbrev pub read_target : View → Exit
read_target v =
    let second = past v.grom in
    exit 2 GOTO (record v { r = record v.r { r6 = join v.grom.fetched second.fetched }; grom = past second })

-- BRANCH: the condition is found from the code byte's bit >20, which BS has, and BR has not. Where they are equal the
-- branch is taken, and else the byte that follows is passed.
abbrev pub test_branch : View → Exit
test_branch v =
    let word = exclusive_or_of (join (high v.r.r4) (slice_index v.cells STATUS)) v.r.r0 in
    let tested = shifted SRL word 6 in
    if last_out SRL word 6
    then exit 5 CFALSE (record v { r = record v.r { r4 = join v.grom.fetched (low tested) }; grom = past v.grom })
    else exit 4 BTARG (record v { r = record v.r { r4 = tested } })

-- BTARG: the low five bits of the code byte and the byte that follows, in the GROM of the code byte, are the target.
abbrev pub read_branch_target : View → Exit
read_branch_target v =
    let offset = join (high (shifted SRL (shifted SLA v.r.r0 11) 3)) v.grom.fetched in
    let base = shifted SLA (shifted SRL v.r.r1 13) 13 in
    exit 8 TAKE (record v { r = record v.r { r4 = base; r6 = sum_of Word offset base }; grom = past v.grom })

-- CASEV: a byte comes down, and the address after the operand is asked for.
abbrev pub request_table : View → Exit
request_table v =
    exit (if v.r.r3 == 1 then 4 else 3) WHERE (record v {
      r = record v.r { r9 = (if v.r.r3 == 1 then shifted SRL v.r.r9 8 else v.r.r9); r11 = CASEN };
    })

-- CASEN: the table there has two bytes for each number; GROM goes back to its beginning.
abbrev pub find_branch : View → Exit
find_branch v =
    exit 3 SEEK (record v {
      r = record v.r { r9 = sum_of Word (sum_of Word v.r.r9 v.r.r9) v.r.r6; r11 = CASET };
    })

-- CASET: the target is moved to where a branch has it.
abbrev pub go_to_branch : View → Exit
go_to_branch v = exit 2 TAKE (record v { r = record v.r { r6 = v.r.r9 } })
