-- What is written of a program whose items were watched.
use Rattle.std.specs.Prelude.{ℕ, List, [], ◌∷◌, ◌++◌}
use Rattle.gpl_run.specs.Sessions.{SessionState, gpl_state_of}
use Rattle.watch_defs.specs.declared.found.Found.{Found}
use Rattle.watch_defs.specs.declared.found.Found.TheVariants as found
use Rattle.report_defs.specs.declared.status.Status.{Status}
use Rattle.report_defs.specs.declared.status.Status.TheVariants.{Done}
use Rattle.report_defs.specs.Program.{program_status, stop_lines, state_lines}
use Rattle.report_defs.specs.Watching.{hit_line, no_hit_line}

-- the text of what was found
abbrev pub found_line : Found → List ℕ
found_line (found.Hit step from item change) = hit_line step from item change
found_line found.None = no_hit_line

-- why the program ended, if it did, is reported if nothing was found
abbrev pub end_lines : Found → SessionState → List (List ℕ)
end_lines (found.Hit step from item change) session = []
end_lines found.None session = stop_lines session.ended (gpl_state_of session).pc

abbrev pub watched_lines : Found → SessionState → List (List ℕ)
watched_lines parsed session =
    found_line parsed ∷ (end_lines parsed session ++ state_lines (gpl_state_of session) session.machine)

-- after a hit the program has not ended, and the report is whole
abbrev pub watched_status : Found → SessionState → Status
watched_status (found.Hit step from item change) session = Done
watched_status found.None session = program_status session.ended
