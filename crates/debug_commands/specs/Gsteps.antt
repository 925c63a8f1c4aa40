-- How the steps of an input are shown.
use Rattle.std.specs.Prelude.{◌≡◌, ◌⊎◌, ℕ, List}
use Rattle.gpl_source_defs.specs.Programs.{program_of_source}
use Rattle.report_defs.specs.declared.status.Status.{Status}
use Rattle.report_defs.specs.Report.{ProgramReport}
use Rattle.gpl_counts.specs.Counts.{changes_alone, counts_alone}
use Rattle.change_defs.specs.Text.{all_changes_text}
use Rattle.reports.specs.Outputs.{Outputs}
use Rattle.debug_commands.specs.Answered.{EndsAnswered}
use Rattle.bench_commands.specs.declared.trace.Trace.{Trace}
use Rattle.bench_commands.specs.Loaded.{RunsNone}
use Rattle.bench_commands.specs.Traced.{TracesSource, EndsTrace}

-- the program of the input was run, and its steps were written with all that they changed
abbrev pub ShowsAll : ℕ → List ℕ → Outputs → Status → Type 0
ShowsAll limit input o end =
    (trace : Trace) × (trace.limit ≡ limit) × TracesSource input trace
    × EndsTrace (changes_alone all_changes_text) o trace end

-- the source is not run
abbrev pub RunsNoStep : List ℕ → Outputs → Status → Type 0
RunsNoStep input = EndsAnswered (ProgramReport RunsNone (program_of_source input))

abbrev pub EndsSteps : ℕ → List ℕ → Outputs → Status → Type 0
EndsSteps limit input o end = ShowsAll limit input o end ⊎ RunsNoStep input o end

-- the program of the input was run, and its steps were written with the counts of their machines
abbrev pub CountsAll : ℕ → List ℕ → Outputs → Status → Type 0
CountsAll limit input o end =
    (trace : Trace) × (trace.limit ≡ limit) × TracesSource input trace
    × EndsTrace counts_alone o trace end

abbrev pub EndsCounts : ℕ → List ℕ → Outputs → Status → Type 0
EndsCounts limit input o end = CountsAll limit input o end ⊎ RunsNoStep input o end
