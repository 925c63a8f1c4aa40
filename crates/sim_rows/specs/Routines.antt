-- The end of a row as a function on views: SHOW, and STO, which stores the result before.
use Rattle.std.specs.Prelude.{◌==◌, if◌then◌else◌}
use Rattle.sim_view.specs.Prelude.{Exit, View}
use Rattle.sim_view.specs.Routines.{◌>>◌}
use Rattle.sim_operands.specs.Routines.{store}
use Rattle.sim_rows.specs.Pieces as piece

unfoldable pub end_row : View → Exit
end_row v = if v.r.r13 == 0 then piece.show v else piece.show v >> store

unfoldable pub finish_row : View → Exit
finish_row v = piece.store_result v >> store >> end_row
