-- What `steps` reports of what `asm` reports.
use Rattle.std.specs.Prelude.{ℕ, List}
use Rattle.object_defs.specs.Modules.{Module}
use Rattle.shelf_defs.specs.Files.{Files}
use Rattle.report_defs.specs.Report.{Report}
use Rattle.source_modules.specs.Laws.{linked_alone, IsAssembled}
use Rattle.machine_change_defs.specs.Reports.{StepsReport}
use Rattle.debug_report_defs.specs.declared.command.DebugCommand.TheVariants.{Steps}
use Rattle.debug_report_defs.specs.Reports.{ReportOn}

-- The law, which is proved: on what `asm` wrote of a source, the reports of `steps` are those of runs of the linked
-- memory of the source's module, and no others.
abbrev pub AssembledTextsStep : Type 0
AssembledTextsStep =
    (m : Module) (text : List ℕ) → IsAssembled m text → (limit : ℕ) (files : Files) (report : Report)
    → (ReportOn (Steps limit) files text report → StepsReport limit (linked_alone m) report)
    × (StepsReport limit (linked_alone m) report → ReportOn (Steps limit) files text report)
