-- What a command reports on its input.
use Rattle.std.specs.Prelude.{◌≡◌, ℕ, ◌+◌, ◌≤◌, nat_lt, if◌then◌else◌, List, [], ◌∷◌, ◌++◌}
use Rattle.std.specs.Prelude.{length, Result, Ok, Err, MatchBool}
use Rattle.std.specs.Prelude.{Option, Some, None}
use Rattle.console_defs.specs.Machine.{MachineState}
use Rattle.console_defs.specs.declared.run_end.RunEnd.{RunEnd}
use Rattle.source_defs.specs.Refusals.{Refusal}
use Rattle.std.specs.FinMap.{empty}
use Rattle.gpl_defs.specs.Image.{Image, AreBytesOf, written_bytes, placed}
use Rattle.gpl_step_defs.specs.State.{GplState, start}
use Rattle.gpl_step_defs.specs.Run.{GplRun, run}
use Rattle.interp_defs.specs.Programs.{RunsProgram}
use Rattle.gpl_source_defs.specs.declared.causes.GplCause.{GplCause}
use Rattle.gpl_source_defs.specs.Programs.{Program, program_of_source}
use Rattle.object_defs.specs.Modules.{Module}
use Rattle.object_defs.specs.Writing.{written_lines}
use Rattle.asm_defs.specs.declared.causes.AsmCause.{AsmCause}
use Rattle.asm_defs.specs.Modules.{module_of_source}
use Rattle.report_defs.specs.declared.command.Command.{Command}
use Rattle.report_defs.specs.declared.command.Command.TheVariants.{Asm, Gasm, Dis, Gdis, Link, Exec, Interp}
use Rattle.report_defs.specs.declared.command.Command.TheVariants.{Run, Trace, Demo}
use Rattle.report_defs.specs.declared.status.Status.{Status}
use Rattle.report_defs.specs.declared.status.Status.TheVariants.{Done, Refused}
use Rattle.shelf_defs.specs.Copied as copied
use Rattle.report_defs.specs.declared.fault.Fault.{Fault}
use Rattle.report_defs.specs.declared.fault.Fault.TheVariants.{TooLarge, PastEnd, NoEntry}
use Rattle.report_defs.specs.FaultLine.{fault_status}
use Rattle.report_defs.specs.SourceFaults.{asm_line, gpl_line}
use Rattle.word_listings.specs.Listing.{memory_listing}
use Rattle.report_defs.specs.GromListing.{image_listing}
use Rattle.link_defs.specs.LinkedMemory.{LinkedMemory}
use Rattle.native_interp.specs.Source.{source}
use Rattle.interp_build_defs.specs.Building.{Links}
use Rattle.report_defs.specs.MemoryListing.{linked_lines}
use Rattle.report_defs.specs.ObjectInput.{linked_input}
use Rattle.report_defs.specs.Exec.{Executes, exec_lines, end_status}
use Rattle.report_defs.specs.Program.{program_lines, program_status}
use Rattle.report_defs.specs.Trace.{ShowsChanges, step_lines, changes_text}
use Rattle.report_defs.specs.DemoText.{demo_text}
use Rattle.report_defs.specs.Summary.{summary_of, summary_lines}
use Rattle.report_defs.specs.Commands.{most_steps}

-- The pieces that standard output gets, each by one write, with the status; or the fault whose line standard error
-- gets; or the line itself, of an input that is refused; or, of such an input, the pieces that standard output gets
-- first and then the line.
pub data Report : Type 0 where
  Whole : Status → List (List ℕ) → Report
  Faulty : Fault → Report
  Rejected : (line : List ℕ) → Report
  RejectedAfter : List (List ℕ) → (line : List ℕ) → Report

abbrev pub status_of : Report → Status
status_of (Whole status pieces) = status
status_of (Faulty fault) = fault_status fault
status_of (Rejected line) = Refused
status_of (RejectedAfter pieces line) = Refused

-- Profile: an input has at most 1,048,576 bytes.
abbrev pub largest_input : ℕ
largest_input = copied.largest_input

-- bytes in one piece, or in none where there are none
abbrev pub one_piece : List ℕ → List (List ℕ)
one_piece [] = []
one_piece (byte ∷ bytes) = (byte ∷ bytes) ∷ []

-- Profile: the report of asm is the object text of the source's module, line by line.
abbrev pub asm_report : Result Module (Refusal AsmCause) → Report
asm_report (Ok found) = Whole Done (written_lines found)
asm_report (Err refused) = Rejected (asm_line refused)

-- Profile: the report of gasm is the bytes of the image from its lowest to its highest written address, in one piece.
abbrev pub gasm_report : Result Program (Refusal GplCause) → Report
gasm_report (Ok program) = Whole Done (one_piece (written_bytes program.image))
gasm_report (Err refused) = Rejected (gpl_line refused)

-- The report of dis is the listing of its input from an address on.
-- Profile: an input that runs past >FFFF is refused.
abbrev pub dis_report : ℕ → List ℕ → Report
dis_report at input =
    if nat_lt 65536 (at + length input) then Faulty PastEnd else Whole Done (memory_listing at input)

-- The report of gdis is the listing of the image that holds its input from an address on.
-- Profile: an input that runs past >FFFF is refused.
abbrev pub gdis_report : ℕ → List ℕ → Report
gdis_report at input =
    if nat_lt 65536 (at + length input) then Faulty PastEnd else Whole Done (image_listing (placed empty at input))

-- Profile: the report of link is the listing of the linked memory.
abbrev pub link_report : Result LinkedMemory (List ℕ) → Report
link_report (Ok linked) = Whole Done (linked_lines linked)
link_report (Err line) = Rejected line

-- the report of a run of the machine
pub record ReportsExecution (limit : ℕ) (linked : LinkedMemory) (report : Report) : Type 0 where
  pub ending : RunEnd
  pub left : MachineState
  pub executes : Executes limit linked ending left
  pub is : report ≡ Whole (end_status ending) (exec_lines ending left)

-- the report of exec, by the linked memory of its input
abbrev pub ExecReport : ℕ → Result LinkedMemory (List ℕ) → Report → Type 0
ExecReport limit (Ok linked) report = ReportsExecution limit linked report
ExecReport limit (Err line) report = report ≡ Rejected line

-- Profile: the report of interp is the listing of the linked memory of the interpreter's source.
pub record ReportsInterpreter (report : Report) : Type 0 where
  pub memory : LinkedMemory
  pub links : Links source memory
  pub is : report ≡ Whole Done (linked_lines memory)

-- A program that was run: its image, the state from which it began, its steps, and the machine that the interpreter
-- left.
pub record ProgramRun : Type 0 where
  pub image : Image
  pub begun : GplState
  pub made : GplRun
  pub left : MachineState

-- what is written of it: how it ended, and the dump
abbrev pub run_lines : ProgramRun → List (List ℕ)
run_lines p = program_lines p.made.stop p.made.last p.left

-- each step by its line, and then what `run` writes
abbrev pub shown_lines : ShowsChanges → ProgramRun → List (List ℕ)
shown_lines shows p = step_lines shows p.begun p.made.done ++ run_lines p

-- `trace` shows the first changes of each step
abbrev pub trace_lines : ProgramRun → List (List ℕ)
trace_lines = shown_lines changes_text

-- `demo` writes the summary of the run
abbrev pub demo_lines : ℕ → ProgramRun → List (List ℕ)
demo_lines number p = summary_lines (summary_of number (length (written_bytes p.image)) p.made p.left)

-- The report of a program that the interpreter runs for up to a number of steps from its entry, by what is written of
-- such a run.
pub record ReportsProgram (lines : ProgramRun → List (List ℕ)) (limit : ℕ) (image : Image) (entry : ℕ)
    (report : Report) : Type 0 where
  pub bytes : List ℕ
  pub of_image : AreBytesOf image bytes
  pub left : MachineState
  pub runs : RunsProgram bytes entry limit left
  pub is : let s = start bytes entry in
      let r = run limit s in
      report ≡ Whole (program_status r.stop) (lines (record { image = image; begun = s; made = r; left = left }))

-- The lines of a program's steps, without what follows them.
pub record ShowsSteps (shows : ShowsChanges) (limit : ℕ) (image : Image) (entry : ℕ) (front : Report) : Type 0 where
  pub bytes : List ℕ
  pub of_image : AreBytesOf image bytes
  pub is : let s = start bytes entry in
      front ≡ Whole Done (step_lines shows s (run limit s).done)

-- What is reported of a program with an image and an entry. Profile: one without an entry is refused.
abbrev pub EnteredReport : (Image → ℕ → Report → Type 0) → Image → Option ℕ → Report → Type 0
EnteredReport Reports image (Some entry) report = Reports image entry report
EnteredReport Reports image None report = report ≡ Faulty NoEntry

-- What is reported of a GPL source, which may be refused.
abbrev pub ProgramReport : (Image → ℕ → Report → Type 0) → Result Program (Refusal GplCause) → Report → Type 0
ProgramReport Reports (Ok program) report = EnteredReport Reports program.image program.entry report
ProgramReport Reports (Err refused) report = report ≡ Rejected (gpl_line refused)

abbrev pub AcceptedReport : Command → List ℕ → Report → Type 0
AcceptedReport Asm input report = report ≡ asm_report (module_of_source input)
AcceptedReport Gasm input report = report ≡ gasm_report (program_of_source input)
AcceptedReport (Dis at) input report = report ≡ dis_report at input
AcceptedReport (Gdis at) input report = report ≡ gdis_report at input
AcceptedReport Link input report = report ≡ link_report (linked_input input)
AcceptedReport (Exec limit) input report = ExecReport limit (linked_input input) report
AcceptedReport Interp input report = ReportsInterpreter report
AcceptedReport (Run limit) input report =
    ProgramReport (ReportsProgram run_lines limit) (program_of_source input) report
AcceptedReport (Trace limit) input report =
    ProgramReport (ReportsProgram trace_lines limit) (program_of_source input) report
AcceptedReport (Demo number) input report =
    ProgramReport (ReportsProgram (demo_lines number) most_steps) (program_of_source (demo_text number)) report

-- What is reported of an input. Profile: one that is too large is refused, whatever else holds.
abbrev pub OnInput : (List ℕ → Report → Type 0) → List ℕ → Report → Type 0
OnInput Reports input report =
    MatchBool (nat_lt largest_input (length input)) (report ≡ Faulty TooLarge) (Reports input report)

abbrev pub ReportOn : Command → List ℕ → Report → Type 0
ReportOn command = OnInput (AcceptedReport command)

-- What is written before the end of a report is known, of an input that is not too large: `trace` writes the line of
-- each step once it is made. Such lines are a front of the report.
abbrev pub PrefixOn : Command → List ℕ → Report → Type 0
PrefixOn (Trace limit) input front =
    (length input ≤ largest_input) × ProgramReport (ShowsSteps changes_text limit) (program_of_source input) front
PrefixOn command input front = ⊥
