-- What the pieces of boot and of the stop by a code byte do: how many instructions they have, where they
-- end, and what they change of the view, in the words of the processor. Registers, cells and
-- ports that are not named stay.
use Rattle.std.specs.Prelude.{slice_set}
use Rattle.sim_rows.specs.Prelude.{Exit, exit, GSTEP, GSTOP, RETURN_STACK, SEEK, VALUE_STACK, View}

-- GBOOT: the stacks' pointers are stored, and SEEK is asked for the entry in register 0.
abbrev pub boot : View → Exit
boot v =
    exit 7 SEEK (record v {
      r = record v.r { r4 = 0x7E9F; r6 = v.r.r0; r11 = GSTEP };
      cells = slice_set (slice_set v.cells VALUE_STACK 0x9F) RETURN_STACK 0x7E;
    })

-- UNKN: the stop by reason 1.
abbrev pub stop_code : View → Exit
stop_code v = exit 2 GSTOP (record v { r = record v.r { r0 = 1 } })
