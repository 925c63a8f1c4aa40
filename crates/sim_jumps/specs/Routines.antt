-- RESUME as a function on views: GROM goes on elsewhere, and the row ends.
use Rattle.sim_rows.specs.Prelude.{Exit, View}
use Rattle.sim_rows.specs.sim_view.Routines.{◌>>◌}
use Rattle.sim_rows.specs.Routines.{end_row}
use Rattle.sim_jumps.specs.Pieces as piece

unfoldable pub resume_row : View → Exit
resume_row v = piece.resume v >> end_row
