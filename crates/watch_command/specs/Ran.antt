-- A program that was run while its items were watched.
use Rattle.std.specs.Prelude.{◌≡◌, ℕ, List}
use Rattle.console_defs.specs.Memory.{IsMemory}
use Rattle.gpl_step_defs.specs.State.{start}
use Rattle.gpl_step_defs.specs.Run.{run}
use Rattle.interp_defs.specs.Programs.{RunsProgram}
use Rattle.watch_defs.specs.declared.item.Item.{Item}
use Rattle.watch_defs.specs.Hits as hits
use Rattle.report_defs.specs.Watching.{steps_to, watch_report}
use Rattle.reports.specs.declared.watched.Watched.{Watched}
use Rattle.reports.specs.declared.report.Report.TheVariants as made
use Rattle.reports.specs.Made.{model_of_report}

-- The program with an image and an entry was run up to the first hit, or for as many steps as may be; what was found is
-- the first hit of its run; and the report is that of this run.
pub record WatchesProgram (image : List ℕ) (entry limit : ℕ) (items : List Item) (watched : Watched) : Type 0 where
  pub found : watched.found ≡ hits.found items limit (start image entry)
  pub runs : RunsProgram image entry (steps_to watched.found limit) watched.session.machine
  pub ended : watched.session.ended ≡ (run (steps_to watched.found limit) (start image entry)).stop
  pub memory : IsMemory watched.session.machine.cpu.memory
  pub report :
      model_of_report (made.Watched watched)
      ≡ watch_report watched.found limit (start image entry) watched.session.machine
