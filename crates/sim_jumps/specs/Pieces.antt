-- What the pieces of a jump do: how many instructions they have, where they end, and what they change of the view,
-- in the words of the processor. Registers, cells and ports that are not named stay.
use Rattle.std.specs.Prelude.{slice_index, slice_set}
use Rattle.sim_rows.specs.Prelude.{Byte, CONDITION_BIT, Exit, exit, GOTO, GSTEP, join, ones_cleared, with_grom_address}
use Rattle.sim_rows.specs.Prelude.{SHOW}
use Rattle.sim_rows.specs.Prelude.{STATUS, View}

-- GOTO: GROM goes on at the address in register 6.
abbrev pub go_to : View → Exit
go_to v = exit 2 GSTEP (record v { grom = with_grom_address v.r.r6 v.grom })

-- TAKE: the condition's bit of the status is cleared.
abbrev pub take_branch : View → Exit
take_branch v =
    exit 3 GOTO (record v {
      r = record v.r { r4 = join CONDITION_BIT 0 };
      cells = slice_set v.cells STATUS (ones_cleared Byte (slice_index v.cells STATUS) CONDITION_BIT);
    })

-- RESUME: GROM goes on at the address in register 14, and the row ends.
abbrev pub resume : View → Exit
resume v = exit 3 SHOW (record v { grom = with_grom_address v.r.r14 v.grom })
