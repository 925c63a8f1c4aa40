-- ADDR, STORE and LOAD as functions on views: their pieces together.
use Rattle.std.specs.Prelude.{ℕ, ◌==◌, if◌then◌else◌, nat_lt}
use Rattle.sim_view.specs.Prelude.{ASPACE, Exit, INDEX, View}
use Rattle.sim_view.specs.Routines.{◌>>◌}
use Rattle.sim_view.specs.native_interp.declared.addresses.TheConstants.{ASHORT}
use Rattle.sim_operands.specs.Pieces.{exit, return_of}
use Rattle.sim_operands.specs.Values.{IsVisible}
use Rattle.sim_operands.specs.Pieces as piece

-- Where a stretch ends at an address, another follows it; elsewhere it is as something else says, or nothing follows.
abbrev pub on_at : ℕ → Exit → (View → Exit) → Exit → Exit
on_at address e f other = if e.to == address then e >> f else other

abbrev pub go_on : ℕ → Exit → (View → Exit) → Exit
go_on address e f = on_at address e f e

-- ADDR: from INDEX on, from APTR on, and whole
unfoldable pub check_index : View → Exit
check_index v = go_on ASPACE (piece.index v) piece.range

unfoldable pub follow_pointer : View → Exit
follow_pointer v = go_on INDEX (piece.pointer v) check_index

unfoldable pub find_operand : View → Exit
find_operand v =
    let read = piece.address v in
    on_at ASHORT read piece.short_range (read >> follow_pointer)

-- STORE and LOAD, and what they change of a view. Whatever is not named stays, so the address to which they return and
-- the registers after them are known without a proof.
unfoldable pub store_pieces : View → Exit
store_pieces v =
    if v.r.r8 == 1
    then piece.store v >> piece.store_video
    else if nat_lt 1 v.r.r8 then piece.store v >> piece.store_register else piece.store v

abbrev pub store : View → Exit
store v =
    let w = (store_pieces v).left in
    exit (store_pieces v).count (return_of v) (record v {
      r = record v.r { r4 = w.r.r4; r13 = w.r.r13 };
      cells = w.cells;
      vdp = w.vdp;
    })

unfoldable pub load_pieces : View → Exit
load_pieces v =
    if v.r.r5 == 1
    then piece.load v >> piece.load_video
    else if nat_lt 1 v.r.r5 then piece.load v >> piece.stream else piece.load v

abbrev pub load : View → Exit
load v =
    let w = (load_pieces v).left in
    exit (load_pieces v).count (return_of v) (record v {
      r = record v.r { r4 = w.r.r4; r6 = w.r.r6 };
      vdp = w.vdp;
      grom = w.grom;
    })

-- A value of the width in register 3 is visible at the place in registers 7 and 8, to which STORE stores; and at the
-- one in registers 2 and 5, from which LOAD loads.
abbrev pub CanStore : View → Type 0
CanStore v = IsVisible v.r.r8 v.r.r7 v.r.r3

abbrev pub CanLoad : View → Type 0
CanLoad v = IsVisible v.r.r5 v.r.r2 v.r.r3
