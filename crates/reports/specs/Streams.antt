-- Runs of a program over a reader and two writers of std.
use Rattle.std.specs.Prelude.{◌≡◌, ℕ, List, [], ◌++◌, Option, Some, Bool, if◌then◌else◌}
use Rattle.std.specs.List.{concat}
use Rattle.bench_io.specs.Stream.{SourceState, SinkState, opened_once}
use Rattle.bench_io.specs.Shown.{Unbuffered}
use Rattle.report_defs.specs.declared.status.Status.{Status}
use Rattle.report_defs.specs.declared.status.Status.TheVariants.{Done, Refused, Usage, ReadFault, WriteFault}
use Rattle.report_defs.specs.declared.status.Status.TheVariants.{Memory, Stopped}
use Rattle.report_defs.specs.FaultLine.{fault_line}
use Rattle.report_defs.specs.Report.{Report, Whole, Faulty, Rejected, RejectedAfter, status_of}
use Rattle.reports.specs.Outputs.{Outputs}
use Rattle.reports.specs.Run.{Program, EndsBy}

-- how a run ends, by its source before and after it, its outputs and its status
abbrev pub Ending : Type 1
Ending = SourceState → SourceState → Outputs → Status → Type 0

-- the streams of a run: what the reader has left, and what the writers of the report and of the fault line hold, as far
-- as each shows it
pub record Streams : Type 0 where
  pub left : Option (List ℕ)
  pub out : Option (List ℕ)
  pub err : Option (List ℕ)

abbrev pub new_source : Option (List ℕ) → SourceState
new_source left = opened_once left 0 0 0 0

abbrev pub new_sink : Option (List ℕ) → SinkState
new_sink held = record { held = held; puts = 0; faults = 0 }

-- a source over a reader, which is opened once
abbrev pub read_once : SourceState → SourceState
read_once s = opened_once s.left s.calls s.taken s.empty s.faults

-- A run over these streams ends so: with this source and these sinks over them, and this status.
abbrev pub EndsOver : Ending → Streams → SourceState → SinkState → SinkState → Status → Type 0
EndsOver Ends streams source out err end =
    Ends (new_source streams.left) (read_once source) (record {
      out = new_sink streams.out;
      out' = out;
      err = new_sink streams.err;
      err' = err;
    }) end

-- The same if the report's writer has a buffer, which is written out at the end. What the program wrote has come through
-- it; or a rest has not, and then the status is a write fault.
pub record EndsThrough (Ends : Ending) (streams : Streams) (source : SourceState) (out err : SinkState) (status : Status) : Type 0 where
  pub is_written : Bool
  pub end : Status
  pub wrote : SinkState
  pub ends : EndsOver Ends streams source wrote err end
  pub came : Unbuffered wrote out is_written
  pub status_is : status ≡ (if is_written then end else WriteFault)

-- ---- in readable form

-- the bytes of a report for the output
abbrev pub output_of : Report → List ℕ
output_of (Whole status pieces) = concat pieces
output_of (Faulty fault) = []
output_of (Rejected line) = []
output_of (RejectedAfter pieces line) = concat pieces

-- the bytes of a report for the error output
abbrev pub error_output_of : Report → List ℕ
error_output_of (Whole status pieces) = []
error_output_of (Faulty fault) = fault_line fault
error_output_of (Rejected line) = line
error_output_of (RejectedAfter pieces line) = line

-- the statuses with which a report is written whole
abbrev pub IsWhole : Status → Type 0
IsWhole Done = Unit {0}
IsWhole Refused = Unit {0}
IsWhole Usage = ⊥
IsWhole ReadFault = ⊥
IsWhole WriteFault = ⊥
IsWhole Memory = ⊥
IsWhole Stopped = Unit {0}

-- There is a report, and it is the only one; the status is its own, and the writers hold what they held and then what
-- the report has for each, and nothing else.
pub record StreamsHoldTheReport (Reports : Report → Type 0) (out_before err_before : List ℕ) (out err : SinkState) (status : Status) : Type 0 where
  pub report : Report
  pub reported : Reports report
  pub only : (other : Report) → Reports other → other ≡ report
  pub status_is : status ≡ status_of report
  pub out_holds : out.held ≡ Some (out_before ++ output_of report)
  pub err_holds : err.held ≡ Some (err_before ++ error_output_of report)

-- streams that show their bytes
abbrev pub showing : (left out err : List ℕ) → Streams
showing left out err = record { left = Some left; out = Some out; err = Some err }

-- the runs of a command of a program over streams, by what the command reads before and after it
abbrev pub run_ending : {C W X : Type 0} → Program C W X → C → (SourceState → W) → (SourceState → W) → Ending
run_ending p command enter leave before after outputs end =
    EndsBy p (record { parsed = Some command; before = enter before; after = leave after; outputs = outputs }) end

-- Where the streams show their bytes and what the command reads is shown, a run that ends by status 0, 1 or 7 has written
-- the one report on what the command read, whole, to the writer that it goes to; with a buffer and without.
pub record StreamsGetTheReport {C W X : Type 0} (p : Program C W X) : Type 0 where
  pub over : (command : C) (enter leave : SourceState → W) (read : X) (bytes out_before err_before : List ℕ)
      (source : SourceState) (out err : SinkState) (status : Status)
      → p.Shows command (enter (new_source (Some bytes))) read → IsWhole status
      → EndsOver (run_ending p command enter leave) (showing bytes out_before err_before) source out err status
      → StreamsHoldTheReport (p.ReportOn command read) out_before err_before out err status
  pub through : (command : C) (enter leave : SourceState → W) (read : X) (bytes out_before err_before : List ℕ)
      (source : SourceState) (out err : SinkState) (status : Status)
      → p.Shows command (enter (new_source (Some bytes))) read → IsWhole status
      → EndsThrough (run_ending p command enter leave) (showing bytes out_before err_before) source out err status
      → StreamsHoldTheReport (p.ReportOn command read) out_before err_before out err status
