-- CALL, RTN and RTNC from their dispatch, FETCH and PUSH from their rows, to the end of the step: the pieces one after
-- the other, as the code has them.
use Rattle.std.specs.Prelude.{◌==◌, if◌then◌else◌, ℕ}
use Rattle.sim_rows.specs.Prelude.{Exit, exit, GplOperation, GSTEP, GSTOP, IsVisible, One, PUSH, Stack}
use Rattle.sim_rows.specs.Prelude.{Stepped, Stopped, TAKE, Turn, View}
use Rattle.sim_rows.specs.gpl_defs.declared.instruction.OneName.TheVariants.{FETCH}
use Rattle.sim_rows.specs.sim_view.Routines.{◌>>◌, ◌>>?◌}
use Rattle.sim_rows.specs.sim_operands.Routines.{load, on_at, store}
use Rattle.sim_rows.specs.Routines.{end_row, finish_row}
use Rattle.sim_jumps.specs.Routines.{resume_row}
use Rattle.sim_rows.specs.sim_operands.Pieces as subroutine
use Rattle.sim_rows.specs.Pieces as step
use Rattle.sim_jumps.specs.Pieces as jump
use Rattle.sim_stack.specs.Pieces as piece

-- ---- CALL

-- the next address is stored, and the program goes on at the target
unfoldable pub call_on : View → Exit
call_on v = piece.find_next v >> piece.store_next >> end_row

unfoldable pub called : View → Exit
called v = piece.read_call_target v >>? call_on

-- ---- RTN and RTNC

-- RTN reaches TAKE, which clears the condition; RTNC keeps it
abbrev pub clear_and_go : View → Exit
clear_and_go v = jump.take_branch v >> jump.go_to

unfoldable pub returned : View → Exit
returned v =
    let taken = piece.take_return v in
    on_at TAKE taken clear_and_go (taken >>? jump.go_to)

-- ---- FETCH

-- the next address is kept, where GROM goes on
abbrev pub set_aside : View → Exit
set_aside v = step.where_next v >> piece.keep_next >> subroutine.seek

-- the address on the stack
abbrev pub load_stacked : View → Exit
load_stacked v = piece.request_stacked v >> load

-- the byte of GROM there
abbrev pub fetch_stacked : View → Exit
fetch_stacked v = piece.seek_stacked v >> subroutine.seek >> piece.request_byte >> subroutine.fetch >> piece.keep_byte

-- the address after it
abbrev pub locate_stacked : View → Exit
locate_stacked v = step.where_next v >> piece.keep_stacked_next >> subroutine.seek

-- both are stored, and the program goes on after the instruction
unfoldable pub end_fetch : View → Exit
end_fetch v = piece.store_stacked v >> store >> piece.store_fetched >> store >> resume_row

-- both may be stored: at the place in register 7, and at the one that was kept
abbrev pub CanStoreBoth : View → Type 0
CanStoreBoth v = IsVisible 0 v.r.r7 v.r.r3 × IsVisible v.r.r15 v.r.r10 1

unfoldable pub fetch_on : View → Exit
fetch_on v = set_aside v >> load_stacked >> fetch_stacked >> locate_stacked >> end_fetch

unfoldable pub fetched : View → Exit
fetched v = piece.keep_place v >>? fetch_on

-- ---- PUSH

unfoldable pub pushed : View → Exit
pushed v = piece.push_pointer v >>? finish_row

-- by the operation; a row of another family is not spoken of
abbrev pub row : GplOperation → View → Exit
row (One FETCH) v = fetched v
row (One PUSH) v = pushed v
row _ v = exit 0 GSTEP v

-- The turn, by where the machine is at the end: these instructions stop by reason 3 alone.
abbrev pub turn_at : ℕ → Turn
turn_at to = if to == GSTOP then Stopped Stack else Stepped
