-- MOVE up to its copy: the pieces one after the other, as the code has them.
use Rattle.std.specs.Prelude.{◌≡◌}
use Rattle.sim_rows.specs.Prelude.{ADDR, Exit, grom_at, MOVED, MOVEN, MOVER, next_at, View}
use Rattle.sim_rows.specs.sim_view.Routines.{◌>>◌}
use Rattle.sim_rows.specs.sim_operands.Routines.{check_index, find_operand, go_on, load, on_at}
use Rattle.sim_rows.specs.sim_operands.Pieces as subroutine
use Rattle.sim_rows.specs.Pieces as step
use Rattle.sim_move.specs.Pieces as piece

-- GROM gives a byte next, with no half of an address written.
abbrev pub IsReady : View → Type 0
IsReady v = v.grom ≡ grom_at v.grom.image (next_at v)

-- the length, which follows or is at an operand
abbrev pub load_count : View → Exit
load_count v = piece.load_length v >> load

unfoldable pub load_placed : View → Exit
load_placed v = go_on MOVEN (find_operand v) load_count

unfoldable pub find_length : View → Exit
find_length v =
    let asked = piece.request_length v in
    on_at ADDR asked load_placed (asked >> load_count)

-- the target, and a source in memory
unfoldable pub find_source : View → Exit
find_source v = go_on ADDR (piece.keep_target v) find_operand

unfoldable pub find_in_memory : View → Exit
find_in_memory v = go_on MOVED (find_operand v) find_source

unfoldable pub find_places : View → Exit
find_places v =
    let kept = piece.keep_length v in
    on_at MOVER kept piece.check_registers (go_on ADDR kept find_in_memory)

-- a source in GROM: its address with the index, and the turn to it
abbrev pub index_source : View → Exit
index_source v = piece.request_source v >> subroutine.stream >> piece.request_index >> check_index

abbrev pub turn_to_source : View → Exit
turn_to_source v = piece.request_next v >> step.where_next >> piece.seek_source >> subroutine.seek >> piece.turn_to_grom
