-- What holds of all runs of the program with files.
use Rattle.std.proofs.Common.{◌≡◌, ℕ, List, length, Option, Some, Bool, true, false, ap, ◌∙◌, subst, inl, inr}
use Rattle.std.specs.Prelude.{IfSome, MatchBool, nat_lt}
use Rattle.source_defs.specs.Refusals.{◌>>=◌}
use Rattle.shelf_defs.specs.Files.{Files, of_files}
use Rattle.shelf_defs.specs.Questions.{Agrees}
use Rattle.shelf_defs.specs.Assembly.{module_of_files}
use Rattle.watch_defs.proofs.FirstHits.{hits_are_first}
use Rattle.watch_defs.proofs.Changes.{ranges_hold_by_their_bytes}
use Rattle.report_defs.specs.declared.fault.Fault.TheVariants.{TooLarge}
use Rattle.report_defs.specs.Report.{Report, Faulty, OnInput, largest_input}
use Rattle.report_defs.specs.LinkedFiles.{linked_texts, read_files}
use Rattle.report_defs.specs.FileReports.{copy_report, files_report}
use Rattle.report_defs.specs.ProgramCommands.{AsmFiles, LinkFiles, Watch, ProgramCommand, OverFiles, Plain}
use Rattle.report_defs.specs.FileReports.{AsmReport, WatchReport, ReportWith}
use Rattle.report_defs.proofs.OneReport.{one_report_with}
use Rattle.report_defs.proofs.ListedFiles.{listed_words_come_back_with}
use Rattle.source_modules.proofs.Reports.{assembled_texts_are_read}
use Rattle.source_modules.proofs.Files.{assembled_files_are_read, assembled_files_link}
use Rattle.bench_shelf.specs.States.{ShelfState}
use Rattle.bench_shelf.proofs.FilesLaws.{module_of_shown}
use Rattle.file_commands.specs.Reported.{CopyReported}
use Rattle.bench_commands.specs.Bench.{bench_input}
use Rattle.bench_commands.proofs.Laws as bench
use Rattle.bench_commands.proofs.Laws.{on_all}
use Rattle.reports.proofs.Runs.{IsProgram, laws_of}
use Rattle.file_commands.specs.Inputs.{Inputs, ShownInputs, FaultRose}
use Rattle.workbench.specs.FileProgram.{AsmOn, Reports, ReadFails, Shows, file_program}
use Rattle.workbench.specs.Laws.{LawsOfFileRuns}

-- the report of `asm` on what was taken is that with the files that are shown
asm_on_input : (before after : ShelfState) (source : List ℕ) (report : Report) (files : Files) → before.files ≡ Some files
    → AsmOn before after source report → OnInput (AsmReport files) source report
asm_on_input before after source report files shown on = by (nat_lt largest_input (length source)) on
  where
    by : (large : Bool)
        → MatchBool large ((report ≡ Faulty TooLarge) × (after ≡ before)) (CopyReported before after source report)
        → MatchBool large (report ≡ Faulty TooLarge) (AsmReport files source report)
    by true on = on.0
    by false on =
        let is : on.answer ≡ module_of_files files source =
        module_of_shown before after source (Some files) on.questions on.answer shown on.dialogue on.gives in
        on.is ∙ ap copy_report is

shown : (command : ProgramCommand) (before after : Inputs) (read : ShownInputs) (report : Report) → Shows command before read
    → Reports command before after report → ReportWith command read.bytes read.files report
shown (OverFiles AsmFiles) before after read report shows (source, reading, on) =
    on_all (AsmReport read.files) before.input after.input source read.bytes report shows.0 reading
    (asm_on_input before.shelf after.shelf source report read.files shows.1 on)
shown (OverFiles (LinkFiles names)) before after read report shows (same, linked) =
    let P : Option Files → Type 0 = λ f. IfSome f (λ files. Agrees largest_input (of_files files) 0 linked.questions) in
    let is : linked.texts ≡ read_files read.files names =
    linked.gives (of_files read.files) (subst P shows linked.dialogue.files) in
    linked.is ∙ ap (λ texts. files_report (texts >>= linked_texts)) is
shown (OverFiles (Watch limit items)) before after read report shows (source, reading, same, on) =
    on_all (WatchReport limit items) before.input after.input source read.bytes report shows reading on
shown (Plain command) before after read report shows (on, same) =
    bench.shown bench_input command before.input after.input read.bytes report shows on

fails : (command : ProgramCommand) (before after : Inputs) → ReadFails command before after → FaultRose before after
fails (OverFiles AsmFiles) before after (inl failed) = inl failed.0
fails (OverFiles AsmFiles) before after (inr (source, whole, questions, dialogue, failed)) = inr failed.rose
fails (OverFiles (LinkFiles names)) before after (questions, dialogue, failed) = inr failed.rose
fails (OverFiles (Watch limit items)) before after failed = inl failed
fails (Plain command) before after failed = inl failed.1

is_program : IsProgram file_program
is_program =
    record {
      one_report = λ command read first second. one_report_with command read.bytes read.files first second;
      shown = shown;
      fails = fails;
    }

pub laws : LawsOfFileRuns
laws =
    record {
      runs = laws_of file_program is_program;
      listed_words = listed_words_come_back_with;
      assembled_texts = assembled_texts_are_read;
      assembled_files = assembled_files_are_read;
      linked_files = assembled_files_link;
      first_hits = hits_are_first;
      ranges = ranges_hold_by_their_bytes;
      plain = bench.laws;
    }
