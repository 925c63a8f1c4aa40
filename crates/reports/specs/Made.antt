-- A report as the program makes it.
use Rattle.std.specs.Prelude.{ℕ, List}
use Rattle.gpl_defs.specs.Image.{written_bytes}
use Rattle.report_defs.specs.declared.status.Status.{Status}
use Rattle.report_defs.specs.declared.status.Status.TheVariants.{Done}
use Rattle.object_tags.specs.Lines.{line_bytes}
use Rattle.report_defs.specs.GromListing.{image_listing}
use Rattle.word_listings.specs.Listing.{memory_listing}
use Rattle.report_defs.specs.Exec.{exec_lines, end_status}
use Rattle.report_defs.specs.Program.{program_lines, program_status}
use Rattle.gpl_run.specs.Sessions.{gpl_state_of}
use Rattle.report_defs.specs.MemoryListing.{linked_lines}
use Rattle.report_defs.specs.Summary.{summary_lines}
use Rattle.link_loader.specs.View.{model_of_linked}
use Rattle.report_defs.specs.Report as spec
use Rattle.reports.specs.Watched.{watched_lines, watched_status}
use Rattle.reports.specs.declared.report.Report.{Report}
use Rattle.reports.specs.declared.report.Report.TheVariants as made

-- what is written of it
abbrev pub pieces_of : Report → List (List ℕ)
pieces_of (made.Object lines) = line_bytes lines.items
pieces_of (made.Image image) = spec.one_piece (written_bytes image)
pieces_of (made.Listing listing) = memory_listing listing.at listing.bytes.items
pieces_of (made.Grom image) = image_listing image
pieces_of (made.Execution ending machine) = exec_lines ending machine
pieces_of (made.Program session) = program_lines session.ended (gpl_state_of session) session.machine
pieces_of (made.Demo summary) = summary_lines summary
pieces_of (made.Memory linked) = linked_lines (model_of_linked linked)
pieces_of (made.Watched watched) = watched_lines watched.found watched.session

-- its status: a run has the status of its end, and all else is done
abbrev pub own_status : Report → Status
own_status (made.Execution ending machine) = end_status ending
own_status (made.Program session) = program_status session.ended
own_status (made.Demo summary) = program_status summary.ended
own_status (made.Watched watched) = watched_status watched.found watched.session
own_status report = Done

-- the report of the definitions
abbrev pub model_of_report : Report → spec.Report
model_of_report report = spec.Whole (own_status report) (pieces_of report)
