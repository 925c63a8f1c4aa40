-- The program over an input and outputs that never fail.
use Rattle.std.specs.Prelude.{◌≡◌, ◌⊎◌, ℕ, if◌then◌else◌, List, [], Option, Some, None}
use Rattle.bench_io.specs.Stream.{SourceState, SinkState, opened_once}
use Rattle.bench_io.specs.Memory.{Supply}
use Rattle.report_defs.specs.declared.command.Command.{Command}
use Rattle.report_defs.specs.declared.status.Status.{Status}
use Rattle.report_defs.specs.declared.status.Status.TheVariants.{Usage, Memory}
use Rattle.report_defs.specs.Commands.{command_of, reads}
use Rattle.report_defs.specs.Report.{Report, status_of, ReportOn}
use Rattle.reports.specs.Run.{EndsBy}
use Rattle.bench_commands.specs.Bench.{bench_program}

-- the bytes that a command reports on, of an input of these bytes
abbrev pub read_of : Command → List ℕ → List ℕ
read_of command input = if reads command then input else []

-- The status of the report on all bytes of the input, of which there is one.
abbrev pub HasReportStatus : Command → List ℕ → Status → Type 0
HasReportStatus command input status =
    (report : Report) × ReportOn command (read_of command input) report × (status ≡ status_of report)

-- The answer on an input of these bytes: to words that are no command always usage; to a command the status of its
-- report, or memory ran out.
abbrev pub AnswersSteadily : Option Command → List ℕ → Status → Type 0
AnswersSteadily None input status = status ≡ Usage
AnswersSteadily (Some command) input status = HasReportStatus command input status ⊎ (status ≡ Memory)

-- a source of these bytes that never fails
abbrev pub steady_source : Supply → SourceState
steady_source s = opened_once (Some s.left) s.calls s.taken s.empty 0

-- a sink that never fails and shows nothing, after a number of calls of `put`
abbrev pub steady_sink : ℕ → SinkState
steady_sink puts = record { held = None; puts = puts; faults = 0 }

-- The run ended as every run does, over such a source and two such sinks.
pub record EndsSteadily (words : List (List ℕ)) (input input' : Supply) (status : Status) : Type 0 where
  pub out : ℕ
  pub err : ℕ
  pub ends : EndsBy bench_program (record {
    parsed = command_of words;
    before = steady_source input;
    after = steady_source input';
    outputs = record { out = steady_sink 0; out' = steady_sink out; err = steady_sink 0; err' = steady_sink err };
  }) status
