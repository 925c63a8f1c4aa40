-- What holds of all runs of `ti_debug`.
use Rattle.std.proofs.Common.{◌≡◌, ℕ, List, length, Bool, true, false, ap, ◌∙◌, subst, inl, inr}
use Rattle.std.proofs.Common.{sym}
use Rattle.std.specs.Prelude.{Option, Some, IfSome, MatchBool, nat_lt}
use Rattle.line_table.proofs.Joined.{source_gives_words}
use Rattle.shelf_defs.specs.Files.{Files, of_files}
use Rattle.shelf_defs.specs.Copied.{most_bytes}
use Rattle.shelf_defs.specs.Questions.{Agrees}
use Rattle.asm_list_defs.specs.Listed.{listing}
use Rattle.bench_shelf.specs.States.{ShelfState}
use Rattle.report_defs.specs.declared.fault.Fault.TheVariants.{TooLarge}
use Rattle.report_defs.specs.Report.{Report, Faulty, OnInput, largest_input}
use Rattle.reports.proofs.Runs.{IsProgram, laws_of}
use Rattle.bench_commands.proofs.Laws as bench
use Rattle.bench_commands.proofs.Laws.{on_all}
use Rattle.gpl_list_defs.proofs.RowLaws.{listings_give_programs}
use Rattle.row_laws.proofs.AssembledRows.{rows_stay_in_runs}
use Rattle.row_laws.proofs.ListedNames.{listings_have_all}
use Rattle.asm_list_defs.proofs.ModuleLaws.{listings_show_modules}
use Rattle.machine_change_defs.proofs.MemoryLead.{changes_give_memory}
use Rattle.gpl_counts.proofs.Bounds.{counts_are_bounded, counts_are_instructions}
use Rattle.source_modules.proofs.Reports.{small}
use Rattle.source_modules.proofs.Files.{assembled_files_are_read}
use Rattle.machine_change_defs.specs.Reports.{StepsReport}
use Rattle.debug_report_defs.specs.declared.command.DebugCommand.{DebugCommand}
use Rattle.debug_report_defs.specs.declared.command.DebugCommand.TheVariants as command
use Rattle.debug_report_defs.specs.Listings.{rows_report, list_report}
use Rattle.debug_report_defs.specs.Reports.{AcceptedReport, ReportOn}
use Rattle.debug_report_defs.proofs.GplLines.{lines_give_states}
use Rattle.debug_report_defs.proofs.MachineLines.{machine_lines_give_states}
use Rattle.debug_report_defs.proofs.ReportLaws.{one_debug_report, debug_fronts_begin_reports, grun_reports_as_run}
use Rattle.debug_report_defs.proofs.SiblingLaws.{siblings_report_alike}
use Rattle.debug_report_defs.proofs.ListedSources.{listings_are_read}
use Rattle.debug_commands.specs.Listed.{ListReported}
use Rattle.file_commands.specs.Inputs.{Inputs, ShownInputs, FaultRose}
use Rattle.debug_commands.specs.Debug.{debug_input, ListOn, Reports, ReadFails, Shows, debug_program}
use Rattle.debug_commands.specs.AssembledSteps.{AssembledTextsStep}
use Rattle.debug_commands.specs.Laws.{LawsOfDebugRuns}

-- the report of `list` by the answers of a shelf is that with the files that it shows
list_shown : (before after : ShelfState) (source : List ℕ) (report : Report) (files : Files) → before.files ≡ Some files
    → ListReported before after source report → report ≡ list_report (listing (of_files files) source)
list_shown before after source report files shown on =
    let P : Option Files → Type 0 = λ f. IfSome f (λ files. Agrees most_bytes (of_files files) 0 on.questions) in
    let gives = on.gives (of_files files) (subst P shown on.dialogue.files) in
    on.is ∙ ap (λ rows. rows_report rows on.refusal) gives.rows_are ∙ ap (rows_report _) gives.refusal_is

list_on_input : (before after : ShelfState) (source : List ℕ) (report : Report) (files : Files) → before.files ≡ Some files
    → ListOn before after source report → OnInput (AcceptedReport command.List files) source report
list_on_input before after source report files shown on = by (nat_lt largest_input (length source)) on
  where
    by : (large : Bool) → MatchBool large ((report ≡ Faulty TooLarge) × (after ≡ before)) (ListReported before after source report)
        → MatchBool large (report ≡ Faulty TooLarge) (AcceptedReport command.List files source report)
    by true on = on.0
    by false on = list_shown before after source report files shown on

shown : (command : DebugCommand) (before after : Inputs) (read : ShownInputs) (report : Report) → Shows command before read
    → Reports command before after report → ReportOn command read.files read.bytes report
shown command.List before after read report shows (source, reading, on) =
    on_all (AcceptedReport command.List read.files) before.input after.input source read.bytes report shows.0 reading
    (list_on_input before.shelf after.shelf source report read.files shows.1 on)
shown command before after read report shows on =
    bench.shown debug_input command before.input after.input read.bytes report shows on.0

fails : (command : DebugCommand) (before after : Inputs) → ReadFails command before after → FaultRose before after
fails command.List before after (inl failed) = inl failed.0
fails command.List before after (inr (source, whole, failed)) = inr failed.2.rose
fails _ before after failed = inl failed.1

is_program : IsProgram debug_program
is_program =
    record {
      one_report = λ command read first second. one_debug_report command read.files read.bytes first second;
      shown = shown;
      fails = fails;
    }

assembled_texts_step : AssembledTextsStep
assembled_texts_step m text it limit files report =
    let read_alike = assembled_files_are_read m text it in
    let fits = small text it.within in (
      λ reported. subst (λ memory. StepsReport limit memory report) read_alike.links (rw fits at reported),
      λ runs. rw fits (subst (λ memory. StepsReport limit memory report) (sym read_alike.links) runs),
    )

pub laws : LawsOfDebugRuns
laws =
    record {
      runs = laws_of debug_program is_program;
      fronts = debug_fronts_begin_reports;
      listings = listings_give_programs;
      lines = listings_are_read;
      standing = rows_stay_in_runs;
      modules = listings_show_modules;
      complete = listings_have_all;
      siblings = siblings_report_alike;
      states = lines_give_states;
      memory = changes_give_memory;
      instructions = machine_lines_give_states;
      assembled = assembled_texts_step;
      plain = grun_reports_as_run;
      counts = counts_are_instructions;
      bounds = counts_are_bounded;
      interpreter = source_gives_words;
    }
