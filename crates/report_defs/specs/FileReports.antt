-- The report of the program, by what its words say, by its input, and by the files.
use Rattle.std.specs.Prelude.{◌≡◌, ℕ, List, Some, Result, Ok, Err}
use Rattle.object_defs.specs.Modules.{Module}
use Rattle.object_defs.specs.Writing.{written_lines}
use Rattle.link_defs.specs.LinkedMemory.{LinkedMemory}
use Rattle.gpl_source_defs.specs.Programs.{program_of_source}
use Rattle.shelf_defs.specs.Files.{Files}
use Rattle.shelf_defs.specs.Assembly.{module_of_files}
use Rattle.shelf_defs.specs.Copied.{CopyRefusal, At, TooLarge}
use Rattle.watch_defs.specs.declared.item.Item.{Item}
use Rattle.report_defs.specs.declared.status.Status.TheVariants.{Done}
use Rattle.report_defs.specs.declared.fault.Fault.TheVariants as fault
use Rattle.report_defs.specs.ObjectFaults.{tag_line, link_line}
use Rattle.report_defs.specs.MemoryListing.{linked_lines}
use Rattle.report_defs.specs.Report.{Report, Whole, Faulty, Rejected, ProgramReport, OnInput, ReportOn}
use Rattle.report_defs.specs.FileLines.{in_file, place_line, missing_line}
use Rattle.report_defs.specs.LinkedFiles as linked
use Rattle.report_defs.specs.LinkedFiles.{FilesRefusal, linked_files}
use Rattle.report_defs.specs.ProgramCommands.{FileCommand, AsmFiles, LinkFiles, Watch, ProgramCommand, OverFiles, Plain}
use Rattle.report_defs.specs.Watching.{ReportsWatch}

-- Profile: the report of asm is the object text of the module, line by line; or the first refused line, with the file
-- that it is in; or that a file is too large.
abbrev pub copy_report : Result Module CopyRefusal → Report
copy_report (Ok found) = Whole Done (written_lines found)
copy_report (Err (At place cause)) = Rejected (place_line place cause)
copy_report (Err TooLarge) = Faulty fault.TooLarge

-- Profile: the report of link with files is the listing of their linked memory.
abbrev pub files_report : Result LinkedMemory FilesRefusal → Report
files_report (Ok memory) = Whole Done (linked_lines memory)
files_report (Err (linked.Missing name)) = Rejected (missing_line name)
files_report (Err linked.TooLarge) = Faulty fault.TooLarge
files_report (Err (linked.InFile name refused)) = Rejected (in_file (Some name) (tag_line refused))
files_report (Err (linked.Unlinked cause)) = Rejected (link_line cause)

-- what `asm` reports of a source with the files that it copies
abbrev pub AsmReport : Files → List ℕ → Report → Type 0
AsmReport files source report = report ≡ copy_report (module_of_files files source)

-- what `watch` reports of a source, by the limit of steps and what is watched
abbrev pub WatchReport : ℕ → List Item → List ℕ → Report → Type 0
WatchReport limit items source = ProgramReport (ReportsWatch limit items) (program_of_source source)

-- Profile: `asm` copies files, `link` with names reads them alone, and every other command reads its input alone.
abbrev pub ReportOver : FileCommand → List ℕ → Files → Report → Type 0
ReportOver AsmFiles input files report = OnInput (AsmReport files) input report
ReportOver (LinkFiles names) input files report = report ≡ files_report (linked_files files names)
ReportOver (Watch limit items) input files report = OnInput (WatchReport limit items) input report

abbrev pub ReportWith : ProgramCommand → List ℕ → Files → Report → Type 0
ReportWith (OverFiles command) input files report = ReportOver command input files report
ReportWith (Plain command) input files report = ReportOn command input report
