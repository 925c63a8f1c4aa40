-- The program with files: what its commands read of the input and of a shelf, report and leave.
use Rattle.std.specs.Prelude.{◌≡◌, ◌⊎◌, ℕ, ◌+◌, ◌*◌, ◌≤◌, nat_lt, MatchBool, List, length, Option, Some, None}
use Rattle.base_defs.specs.Counts.{saturating_sum}
use Rattle.bench_io.specs.ReadAll.{ReadWhole}
use Rattle.report_defs.specs.declared.fault.Fault.TheVariants.{TooLarge}
use Rattle.report_defs.specs.Report.{Report, Faulty, OnInput, largest_input}
use Rattle.report_defs.specs.ProgramCommands.{AsmFiles, LinkFiles, Watch, ProgramCommand, OverFiles, Plain}
use Rattle.report_defs.specs.ProgramCommands.{program_usage}
use Rattle.report_defs.specs.FileReports.{WatchReport, ReportWith}
use Rattle.shelf_defs.specs.Copied.{most_bytes, most_copies}
use Rattle.shelf_defs.specs.Questions.{Question}
use Rattle.bench_shelf.specs.States.{ShelfState}
use Rattle.bench_shelf.specs.Causes.{ReadWithinLimit}
use Rattle.bench_shelf.specs.Dialogue.{CopyDialogue}
use Rattle.file_commands.specs.Reading.{LinkDialogue}
use Rattle.file_commands.specs.Reported.{Failed, CopyReported, LinkReported}
use Rattle.file_commands.specs.Inputs.{Inputs, ShownInputs, ReadsFirst, FaultRose}
use Rattle.bench_commands.specs.Bench.{bench_input}
use Rattle.bench_commands.specs.InputRun as plain
use Rattle.bench_commands.specs.InputRun.{ReadsInput, ConsumedWithin}
use Rattle.reports.specs.Run.{Program}

-- The report of `asm` on a source that was taken of the input. If that is too large, no file is opened.
abbrev pub AsmOn : ShelfState → ShelfState → List ℕ → Report → Type 0
AsmOn before after source report =
    MatchBool (nat_lt largest_input (length source)) ((report ≡ Faulty TooLarge) × (after ≡ before))
    (CopyReported before after source report)

-- The report of a command. `asm` takes the input and the files that it copies, `link` with names of files takes these
-- alone, and every other command is a command of `bench`, or `watch`, and leaves the shelf as it was.
abbrev pub Reports : ProgramCommand → Inputs → Inputs → Report → Type 0
Reports (OverFiles AsmFiles) before after report =
    (source : List ℕ) × ReadsInput before.input after.input source × AsmOn before.shelf after.shelf source report
Reports (OverFiles (LinkFiles names)) before after report =
    (after.input ≡ before.input) × LinkReported before.shelf after.shelf names report
Reports (OverFiles (Watch limit items)) before after report =
    (source : List ℕ) × ReadsInput before.input after.input source × (after.shelf ≡ before.shelf)
    × OnInput (WatchReport limit items) source report
Reports (Plain command) before after report =
    plain.Reports bench_input command before.input after.input report × (after.shelf ≡ before.shelf)

-- a front of it, which is written before its end is known
abbrev pub Begins : ProgramCommand → Inputs → Inputs → Report → Type 0
Begins (OverFiles command) before after front = ⊥
Begins (Plain command) before after front =
    plain.Begins bench_input command before.input after.input front × (after.shelf ≡ before.shelf)

-- What a command that wrote nothing leaves of the input and of the shelf. Of no file more bytes were taken than it may
-- have: else it is reported as too large. `asm` opens none before it has taken the input whole.
abbrev pub Leaves : ProgramCommand → Inputs → Inputs → Type 0
Leaves (OverFiles AsmFiles) before after =
    ConsumedWithin before.input after.input × ReadWithinLimit most_bytes before.shelf after.shelf
    × ReadsFirst before after
Leaves (OverFiles (LinkFiles names)) before after =
    (after.input ≡ before.input) × ReadWithinLimit largest_input before.shelf after.shelf
    × (questions : List Question) × LinkDialogue before.shelf after.shelf names questions
Leaves (OverFiles (Watch limit items)) before after =
    ConsumedWithin before.input after.input × (after.shelf ≡ before.shelf)
Leaves (Plain command) before after =
    plain.Leaves bench_input command before.input after.input × (after.shelf ≡ before.shelf)

-- A call failed of what the command reads: of the input, and then no file was opened; or of the shelf, which `asm` asks
-- for files after the input was taken whole, at the file that was asked for last.
abbrev pub ReadFails : ProgramCommand → Inputs → Inputs → Type 0
ReadFails (OverFiles AsmFiles) before after =
    (plain.Fails before.input after.input × (after.shelf ≡ before.shelf))
    ⊎ ((source : List ℕ) × ReadWhole largest_input before.input after.input source
    × (questions : List Question) × CopyDialogue before.shelf after.shelf source questions
    × Failed most_bytes before.shelf after.shelf questions)
ReadFails (OverFiles (LinkFiles names)) before after =
    (questions : List Question) × LinkDialogue before.shelf after.shelf names questions
    × Failed largest_input before.shelf after.shelf questions
ReadFails (OverFiles (Watch limit items)) before after = plain.Fails before.input after.input
ReadFails (Plain command) before after = plain.ReadFails bench_input command before.input after.input

-- what a command reads is shown: the bytes of the input, the files of the shelf, both, or nothing
abbrev pub Shows : ProgramCommand → Inputs → ShownInputs → Type 0
Shows (OverFiles AsmFiles) reading shown =
    (reading.input.left ≡ Some shown.bytes) × (reading.shelf.files ≡ Some shown.files)
Shows (OverFiles (LinkFiles names)) reading shown = reading.shelf.files ≡ Some shown.files
Shows (OverFiles (Watch limit items)) reading shown = reading.input.left ≡ Some shown.bytes
Shows (Plain command) reading shown = plain.Shows bench_input command reading.input shown.bytes

abbrev pub file_program : Program ProgramCommand Inputs ShownInputs
file_program =
    record {
      usage = program_usage;
      Reports = Reports;
      Begins = Begins;
      Leaves = Leaves;
      ReadFails = ReadFails;
      Fails = FaultRose;
      Shows = Shows;
      ReportOn = λ command shown report. ReportWith command shown.bytes shown.files report;
    }

-- What is taken of a shelf at most, whatever the status: for each COPY line that may be followed, and for each file of
-- `link`, one file is asked for, and one byte more is taken than it may have. Each other command, and words that are no
-- command, leave the shelf as it was, also the count of files that were asked for. It follows from how a run ends.
abbrev pub TakesOfShelf : Option ProgramCommand → ShelfState → ShelfState → Type 0
TakesOfShelf None before after = after ≡ before
TakesOfShelf (Some (OverFiles AsmFiles)) before after =
    (after.opens ≤ saturating_sum before.opens most_copies)
    × (after.source.taken ≤ saturating_sum before.source.taken ((most_bytes + 1) * most_copies))
TakesOfShelf (Some (OverFiles (LinkFiles names))) before after =
    (after.opens ≤ saturating_sum before.opens (length names))
    × (after.source.taken ≤ saturating_sum before.source.taken ((largest_input + 1) * length names))
TakesOfShelf (Some (OverFiles (Watch limit items))) before after = after ≡ before
TakesOfShelf (Some (Plain command)) before after = after ≡ before
