-- How a run of a command of `ti_debug` ends that reads the input alone.
use Rattle.std.proofs.Common.{ℕ, List, length, Result, Ok, Err, sym, subst, inl, inr}
use Rattle.std.specs.Prelude.{nat_lt}
use Rattle.bench_io.specs.Stream.{SourceState}
use Rattle.bench_io.specs.ReadAll.{ReadWhole}
use Rattle.source_defs.specs.Refusals.{Refusal}
use Rattle.gpl_source_defs.specs.declared.causes.GplCause.{GplCause}
use Rattle.gpl_source_defs.specs.Programs.{program_of_source}
use Rattle.link_defs.specs.LinkedMemory.{LinkedMemory}
use Rattle.report_defs.specs.declared.status.Status.{Status}
use Rattle.report_defs.specs.ObjectInput.{linked_input}
use Rattle.report_defs.specs.Report as spec
use Rattle.change_defs.specs.Text.{all_changes_text}
use Rattle.reports.specs.Outputs.{Outputs}
use Rattle.reports.specs.Answers.{WantsMemory}
use Rattle.reports.specs.Run.{Program, EndsBy}
use Rattle.reports.proofs.Answers.{reported_as}
use Rattle.reports.proofs.NoUsage.{IsNoUsage, same_no_usage, program_no_usage, large_no_usage, source_no_usage}
use Rattle.bench_commands.specs.InputRun.{input_program}
use Rattle.bench_commands.specs.Loaded.{RunsNone}
use Rattle.bench_commands.proofs.NoUsage as shown
use Rattle.bench_commands.proofs.LoadedSources.{program_none}
use Rattle.bench_commands.proofs.Ends.{HasNoUsage, run_of, by_answer, by_front, reading, within}
use Rattle.bench_commands.proofs.Traces.{by_trace}
use Rattle.debug_report_defs.specs.declared.command.DebugCommand.{DebugCommand}
use Rattle.debug_report_defs.specs.declared.command.DebugCommand.TheVariants.{Gcounts, Glist, Grun, Gsteps, Steps}
use Rattle.debug_report_defs.specs.declared.command.DebugCommand.TheVariants as command
use Rattle.debug_report_defs.specs.Reports.{InputReport}
use Rattle.gpl_counts.specs.Counts.{ReportsCounts}
use Rattle.gpl_step_defs.specs.State.{start}
use Rattle.gpl_step_defs.specs.Run.{run}
use Rattle.machine_change_defs.specs.Reports.{StepsReport}
use Rattle.debug_commands.specs.Ends.{EndsInstructions}
use Rattle.gpl_list_defs.specs.Text.{listing_lines}
use Rattle.gpl_list_defs.specs.Listing.{listing_of, listing_report, report_by}
use Rattle.debug_commands.specs.Answered.{EndsAnswered}
use Rattle.debug_commands.specs.Debug.{debug_input}
use Rattle.debug_commands.specs.Gsteps.{EndsSteps}

listing_no_usage : (lines : List (List ℕ)) (refused : Result Unit (Refusal GplCause)) → IsNoUsage (report_by lines refused)
listing_no_usage lines (Ok done) e = absurd cc
listing_no_usage lines (Err refused) e = absurd cc

steps_no_usage : (limit : ℕ) (found : Result LinkedMemory (List ℕ)) (report : spec.Report) → StepsReport limit found report
    → IsNoUsage report
steps_no_usage limit (Ok linked) report on = same_no_usage report _ on.is (shown.end_no_usage on.ending)
steps_no_usage limit (Err line) report is = same_no_usage report (spec.Rejected line) is (λ e. absurd cc)

accepted_no_usage : (command : DebugCommand) (input : List ℕ) (report : spec.Report) → InputReport command input report
    → IsNoUsage report
accepted_no_usage Glist input report is =
    same_no_usage report (listing_report (listing_of input)) is
    (listing_no_usage (listing_lines (listing_of input).rows (listing_of input).names) (listing_of input).refused)
accepted_no_usage command.List input report none = absurd none
accepted_no_usage (Grun limit) input report on = shown.program_none spec.run_lines limit input report on
accepted_no_usage (Gsteps limit) input report on = shown.program_none (spec.shown_lines all_changes_text) limit input report on
accepted_no_usage (Gcounts limit) input report on =
    source_no_usage (ReportsCounts limit)
    (λ image entry report on. same_no_usage report _ on.is (program_no_usage (run limit (start on.bytes entry)).stop))
    (program_of_source input) report on
accepted_no_usage (Steps limit) input report on = steps_no_usage limit (linked_input input) report on

pub no_usage : HasNoUsage debug_input
no_usage command input report on =
    large_no_usage (nat_lt spec.largest_input (length input)) report (InputReport command input report)
    (accepted_no_usage command input report) on

-- the program over the input alone
abbrev pub input_only : Program DebugCommand SourceState (List ℕ)
input_only = input_program debug_input

-- a run of a command that makes its report first ends as that
module _ (command : DebugCommand) (before after : SourceState) (o : Outputs) (bytes : List ℕ)
    (takes : ReadWhole spec.largest_input before after bytes) where
  pub by_answered : (Reports : spec.Report → Type 0) → ((report : spec.Report) → Reports report → InputReport command bytes report)
      → (end : Status) → EndsAnswered Reports o end → EndsBy input_only (run_of debug_input no_usage command before after o) end
  by_answered Reports accepted end (answer, made, ends) =
      by_answer debug_input no_usage command before after o bytes takes answer end
      (reported_as Reports (InputReport command bytes) WantsMemory answer accepted made) ends

-- a run of `gsteps` ends as its steps
module _ (limit : ℕ) (before after : SourceState) (o : Outputs) (bytes : List ℕ)
    (takes : ReadWhole spec.largest_input before after bytes) where
  pub by_steps : (end : Status) → EndsSteps limit bytes o end
      → EndsBy input_only (run_of debug_input no_usage (Gsteps limit) before after o) end
  by_steps end (inl (trace, is, t, ends)) =
      by_trace all_changes_text bytes trace t debug_input no_usage (Gsteps limit) before after o takes
      (λ report on. subst (λ (n : ℕ). InputReport (Gsteps n) bytes report) is on)
      (λ report on. (on.0, subst (λ (n : ℕ). spec.ProgramReport (spec.ShowsSteps all_changes_text n) (program_of_source bytes) report) is on.1))
      end ends
  by_steps end (inr ends) =
      by_answered (Gsteps limit) before after o bytes takes (spec.ProgramReport RunsNone (program_of_source bytes))
      (program_none (spec.ReportsProgram (spec.shown_lines all_changes_text) limit) (program_of_source bytes)) end ends

-- a run of `steps` ends as its instructions
module _ (limit : ℕ) (before after : SourceState) (o : Outputs) (bytes : List ℕ)
    (takes : ReadWhole spec.largest_input before after bytes) where
  pub by_instructions : (end : Status) → EndsInstructions limit bytes o end
      → EndsBy input_only (run_of debug_input no_usage (Steps limit) before after o) end
  by_instructions end (inl ends) =
      by_answered (Steps limit) before after o bytes takes (StepsReport limit (linked_input bytes)) (λ report on. on) end ends
  by_instructions end (inr (front, shows, is, missed)) =
      let le = within debug_input no_usage (Steps limit) before after o bytes takes in
      let reads = reading debug_input no_usage (Steps limit) before after o bytes takes in
      subst (EndsBy input_only (run_of debug_input no_usage (Steps limit) before after o)) (sym is)
      (by_front debug_input no_usage (Steps limit) before after o front (bytes, reads, (le, shows)) missed)
