-- What the pieces of the shifts do: how many instructions they have, where they end, and what they change of the
-- view, in the words of the processor. Registers, cells and ports that are not named stay.
use Rattle.std.specs.Prelude.{ℕ, ◌+◌, ◌==◌, if◌then◌else◌}
use Rattle.sim_rows.specs.Prelude.{COUNT, Exit, exit, ones_set, return_of, shifted, ShiftOp, SLA, SLLB, SRA, SRAB}
use Rattle.sim_rows.specs.Prelude.{SRC, SRCB, SRL, SRLB, STO, swapped, View}

-- the count is asked for, and it goes on at an address
abbrev pub asking : ℕ → View → Exit
asking next v = exit 1 COUNT (record v { r = record v.r { r11 = next } })

-- SRAV, SLLV, SRLV, SRCV: the count of the shift is asked for.
abbrev pub request_arithmetic_count : View → Exit
request_arithmetic_count v = asking SRAB v

abbrev pub request_left_count : View → Exit
request_left_count v = asking SLLB v

abbrev pub request_right_count : View → Exit
request_right_count v = asking SRLB v

abbrev pub request_turn_count : View → Exit
request_turn_count v = asking SRCB v

-- the low four bits of a word
abbrev pub low_four : ℕ → ℕ
low_four word = shifted SRL (shifted SLA word 12) 12

-- the count is found; where it is 0 the value is stored as it is
abbrev pub counted : ℕ → ℕ → View → Exit
counted most word v =
    let with_count = record v { r = record v.r { r0 = low_four word } } in
    if low_four word == 0 then exit most STO with_count else exit (most + 1) (return_of v) with_count

-- COUNT: the low four bits of the source become the count, which register 0 holds; a byte is swapped into the low half.
abbrev pub take_count : View → Exit
take_count v = if v.r.r3 == 1 then counted 7 (swapped v.r.r6) v else counted 6 v.r.r6 v

-- the value is shifted by the count in register 0
abbrev pub shifting : ShiftOp → View → Exit
shifting op v = exit 2 STO (record v { r = record v.r { r9 = shifted op v.r.r9 v.r.r0 } })

-- SRAB, SLLB, SRLB: the value is shifted.
abbrev pub shift_arithmetic : View → Exit
shift_arithmetic v = shifting SRA v

abbrev pub shift_left : View → Exit
shift_left v = shifting SLA v

abbrev pub shift_right : View → Exit
shift_right v = shifting SRL v

-- SRCB: the value is turned to the right; a byte is in both halves of its register for it.
abbrev pub turn_right : View → Exit
turn_right v =
    if v.r.r3 == 1
    then exit 7 STO (record v {
      r = record v.r { r4 = swapped v.r.r9; r9 = shifted SRC (ones_set v.r.r9 (swapped v.r.r9)) v.r.r0 };
    })
    else exit 4 STO (record v { r = record v.r { r9 = shifted SRC v.r.r9 v.r.r0 } })

-- The last piece of each shift.
abbrev pub shifts : ShiftOp → View → Exit
shifts SRC v = turn_right v
shifts op v = shifting op v
