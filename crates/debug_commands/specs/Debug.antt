-- `ti_debug` as a program: what its commands read of the input and of a shelf, report and leave.
use Rattle.std.specs.Prelude.{◌≡◌, ◌⊎◌, ℕ, ◌+◌, ◌*◌, ◌≤◌, nat_lt, true, MatchBool, List, length, Option, Some, None}
use Rattle.base_defs.specs.Counts.{saturating_sum}
use Rattle.bench_io.specs.ReadAll.{ReadWhole}
use Rattle.shelf_defs.specs.Copied.{most_bytes, most_copies}
use Rattle.bench_shelf.specs.States.{ShelfState}
use Rattle.report_defs.specs.declared.fault.Fault.TheVariants.{TooLarge}
use Rattle.report_defs.specs.declared.status.Status.TheVariants.{ReadFault}
use Rattle.report_defs.specs.Report.{Report, Faulty, largest_input}
use Rattle.reports.specs.Run.{Program}
use Rattle.file_commands.specs.Inputs.{Inputs, ShownInputs, ReadsFirst, FaultRose}
use Rattle.bench_commands.specs.InputRun as plain
use Rattle.bench_commands.specs.InputRun.{InputCommands, ReadsInput, ConsumedWithin}
use Rattle.debug_report_defs.specs.declared.command.DebugCommand.{DebugCommand}
use Rattle.debug_report_defs.specs.declared.command.DebugCommand.TheVariants as command
use Rattle.debug_report_defs.specs.Words.{debug_usage}
use Rattle.debug_report_defs.specs.Reports.{InputReport, ReportOn, PrefixOn}
use Rattle.debug_commands.specs.Listed.{ListReported, ListFails, ConsumedOfFiles}

-- the commands over the input alone, which each of them reads
abbrev pub debug_input : InputCommands DebugCommand
debug_input =
    record { usage = debug_usage; reads = λ command. true; Accepted = InputReport; PrefixOn = PrefixOn }

-- The report of `list` on a source that was taken of the input. If that is too large, no file is opened.
abbrev pub ListOn : ShelfState → ShelfState → List ℕ → Report → Type 0
ListOn before after source report =
    MatchBool (nat_lt largest_input (length source)) ((report ≡ Faulty TooLarge) × (after ≡ before))
    (ListReported before after source report)

-- The report of a command. `list` takes the input and the files that it copies. Every other command takes the input,
-- and leaves the shelf as it was.
abbrev pub Reports : DebugCommand → Inputs → Inputs → Report → Type 0
Reports command.List before after report =
    (source : List ℕ) × ReadsInput before.input after.input source × ListOn before.shelf after.shelf source report
Reports command before after report =
    plain.Reports debug_input command before.input after.input report × (after.shelf ≡ before.shelf)

-- a front of it, which is written before its end is known
abbrev pub Begins : DebugCommand → Inputs → Inputs → Report → Type 0
Begins command before after front =
    plain.Begins debug_input command before.input after.input front × (after.shelf ≡ before.shelf)

-- what a command that wrote nothing leaves of the input and of the shelf
abbrev pub Leaves : DebugCommand → Inputs → Inputs → Type 0
Leaves command.List before after =
    ConsumedWithin before.input after.input × ConsumedOfFiles before.shelf after.shelf × ReadsFirst before after
Leaves command before after =
    plain.Leaves debug_input command before.input after.input × (after.shelf ≡ before.shelf)

-- A call failed of what the command reads: of the input, and then no file was opened; or of the shelf, which `list`
-- asks for files after the input was taken whole, at the file that was asked for last.
abbrev pub ReadFails : DebugCommand → Inputs → Inputs → Type 0
ReadFails command.List before after =
    (plain.Fails before.input after.input × (after.shelf ≡ before.shelf))
    ⊎ ((source : List ℕ) × ReadWhole largest_input before.input after.input source
    × ListFails before.shelf after.shelf source ReadFault)
ReadFails command before after = plain.ReadFails debug_input command before.input after.input

-- what a command reads is shown: the bytes of the input, and to `list` the files of the shelf too
abbrev pub Shows : DebugCommand → Inputs → ShownInputs → Type 0
Shows command.List reading shown =
    (reading.input.left ≡ Some shown.bytes) × (reading.shelf.files ≡ Some shown.files)
Shows command reading shown = plain.Shows debug_input command reading.input shown.bytes

abbrev pub debug_program : Program DebugCommand Inputs ShownInputs
debug_program =
    record {
      usage = debug_usage;
      Reports = Reports;
      Begins = Begins;
      Leaves = Leaves;
      ReadFails = ReadFails;
      Fails = FaultRose;
      Shows = Shows;
      ReportOn = λ command shown. ReportOn command shown.files shown.bytes;
    }

-- What is taken of a shelf at most, whatever the status: `list` asks for one file for each COPY line that may be
-- followed, and takes one byte more of it than it may have. Each other command, and words that are no command, leave
-- the shelf as it was, also the count of files that were asked for. It follows from how a run ends.
abbrev pub TakesOfShelf : Option DebugCommand → ShelfState → ShelfState → Type 0
TakesOfShelf None before after = after ≡ before
TakesOfShelf (Some command.List) before after =
    (after.opens ≤ saturating_sum before.opens most_copies)
    × (after.source.taken ≤ saturating_sum before.source.taken ((most_bytes + 1) * most_copies))
TakesOfShelf (Some command) before after = after ≡ before
