-- How a run with files ends.
use Rattle.std.proofs.Common.{◌≡◌, ℕ, List, length, Some, Bool, true, false, refl, sym, subst, inl, inr, arith}
use Rattle.std.specs.Prelude.{nat_lt, MatchBool, Option, Result, Ok, Err}
use Rattle.std.proofs.lemmas.Bool.Decides.{nat_tests}
use Rattle.bench_io.specs.Stream.{SourceState}
use Rattle.bench_io.specs.ReadAll.{ReadWhole}
use Rattle.report_defs.specs.declared.command.Command.{Command}
use Rattle.report_defs.specs.declared.fault.Fault.TheVariants.{TooLarge}
use Rattle.report_defs.specs.declared.status.Status.{Status}
use Rattle.report_defs.specs.declared.status.Status.TheVariants as status
use Rattle.source_defs.specs.Refusals.{◌>>=◌}
use Rattle.object_defs.specs.Modules.{Module}
use Rattle.link_defs.specs.LinkedMemory.{LinkedMemory}
use Rattle.console_defs.specs.Machine.{MachineState}
use Rattle.gpl_step_defs.specs.State.{GplState, start}
use Rattle.gpl_step_defs.specs.Run.{run}
use Rattle.gpl_source_defs.specs.Programs.{program_of_source}
use Rattle.watch_defs.specs.declared.found.Found.{Found}
use Rattle.watch_defs.specs.declared.found.Found.TheVariants as found
use Rattle.watch_defs.specs.declared.item.Item.{Item}
use Rattle.shelf_defs.specs.Copied as copied
use Rattle.shelf_defs.specs.Copied.{CopyRefusal}
use Rattle.report_defs.specs.LinkedFiles as linked
use Rattle.report_defs.specs.LinkedFiles.{FilesRefusal, linked_texts}
use Rattle.report_defs.specs.FileReports.{copy_report, files_report}
use Rattle.report_defs.specs.Watching.{ReportsWatch, watch_report}
use Rattle.report_defs.specs.FileReports.{WatchReport}
use Rattle.report_defs.specs.ProgramCommands.{FileCommand, AsmFiles, LinkFiles, Watch, ProgramCommand, OverFiles, Plain}
use Rattle.report_defs.specs.Report.{Report, Faulty, ProgramReport, largest_input}
use Rattle.bench_shelf.specs.States.{ShelfState}
use Rattle.file_commands.specs.Reported.{CopyReported, CopyFails}
use Rattle.reports.specs.Outputs.{Outputs}
use Rattle.reports.specs.Answers.{Ends, WantsMemory, Reported}
use Rattle.reports.specs.Run.{Run, EndsParsed}
use Rattle.reports.proofs.Runs.{by_report}
use Rattle.reports.proofs.NoUsage.{IsNoUsage, same_no_usage, program_no_usage, large_no_usage, source_no_usage}
use Rattle.bench_commands.specs.InputRun.{ConsumedWithin}
use Rattle.bench_commands.specs.Bench.{bench_program}
use Rattle.bench_commands.proofs.Ends.{reads_whole}
use Rattle.file_commands.specs.Inputs.{Inputs}
use Rattle.workbench.specs.FileProgram.{Reports, file_program}
use Rattle.workbench.specs.Answered.{FailsWith, AnswersWith}

-- ---- no report has the status of words that say no command

copy_no_usage : (answer : Result Module CopyRefusal) → IsNoUsage (copy_report answer)
copy_no_usage (Ok found) e = absurd cc
copy_no_usage (Err copied.TooLarge) e = absurd cc
copy_no_usage (Err _) e = absurd cc

files_no_usage : (answer : Result LinkedMemory FilesRefusal) → IsNoUsage (files_report answer)
files_no_usage (Ok linked) e = absurd cc
files_no_usage (Err linked.TooLarge) e = absurd cc
files_no_usage (Err _) e = absurd cc

found_no_usage : (found : Found) (limit : ℕ) (s : GplState) (left : MachineState)
    → IsNoUsage (watch_report found limit s left)
found_no_usage (found.Hit step from item change) limit s left e = absurd cc
found_no_usage found.None limit s left e = program_no_usage (run limit s).stop e

asm_no_usage : (before after : ShelfState) (source : List ℕ) (report : Report) (large : Bool)
    → MatchBool large ((report ≡ Faulty TooLarge) × (after ≡ before)) (CopyReported before after source report)
    → IsNoUsage report
asm_no_usage before after source report true on = same_no_usage report (Faulty TooLarge) on.0 (λ e. absurd cc)
asm_no_usage before after source report false on =
    same_no_usage report (copy_report on.answer) on.is (copy_no_usage on.answer)

no_usage : (command : FileCommand) (before after : Inputs) (report : Report)
    → Reports (OverFiles command) before after report → IsNoUsage report
no_usage AsmFiles before after report (source, reading, on) =
    asm_no_usage before.shelf after.shelf source report (nat_lt largest_input (length source)) on
no_usage (LinkFiles names) before after report (same, on) =
    same_no_usage report (files_report (on.texts >>= linked_texts)) on.is (files_no_usage (on.texts >>= linked_texts))
no_usage (Watch limit items) before after report (source, reading, same, on) =
    large_no_usage (nat_lt largest_input (length source)) report
    (ProgramReport (ReportsWatch limit items) (program_of_source source) report)
    (source_no_usage (ReportsWatch limit items)
    (λ image entry report on. same_no_usage report _ on.is (found_no_usage on.found limit (start on.bytes entry) on.left))
    (program_of_source source) report) on

-- a run ends by what its command answers
pub ends_over : (command : FileCommand) (run : Run ProgramCommand Inputs) (answer : Result Report Status) (end : Status)
    → AnswersWith command run.before run.after answer → Ends run.outputs answer end
    → EndsParsed file_program (Some (OverFiles command)) run end
ends_over command run (Ok report) end is ends =
    by_report file_program (OverFiles command) run report end is (no_usage command run.before run.after report is) ends
ends_over command run (Err status.ReadFault) end (leaves, failed) (is, out, err) =
    subst (EndsParsed file_program (Some (OverFiles command)) run) (sym is)
    (record { leaves = leaves; out = out; err = err }, failed)
ends_over command run (Err status.Memory) end leaves (is, out, err) =
    subst (EndsParsed file_program (Some (OverFiles command)) run) (sym is)
    (record { leaves = leaves; out = out; err = err })
ends_over command run (Err _) end fails ends = absurd fails

-- what holds of what the words say holds of the command that was read of them
pub ends_parsed : (before after : Inputs) (o : Outputs) (end : Status) (parsed words : Option ProgramCommand) → parsed ≡ words
    → EndsParsed file_program parsed (record { parsed = parsed; before = before; after = after; outputs = o }) end
    → EndsParsed file_program words (record { parsed = words; before = before; after = after; outputs = o }) end
ends_parsed before after o end parsed words same ends = rw (sym same) ends

-- a command of `bench` leaves the shelf as it was
pub ends_plain : (command : Command) (shelf : ShelfState) (input input' : SourceState) (o : Outputs) (end : Status)
    → EndsParsed bench_program (Some command) (record { parsed = Some command; before = input; after = input'; outputs = o }) end
    → EndsParsed file_program (Some (Plain command)) (record {
      parsed = Some (Plain command);
      before = record { input = input; shelf = shelf };
      after = record { input = input'; shelf = shelf };
      outputs = o;
    }) end
ends_plain command shelf input input' o status.Done (report, on, wrote) = (report, (on, refl), wrote)
ends_plain command shelf input input' o status.Refused (report, on, wrote) = (report, (on, refl), wrote)
ends_plain command shelf input input' o status.Usage ends = absurd ends
ends_plain command shelf input input' o status.ReadFault (nothing, failed) =
    (record { leaves = (nothing.leaves, refl); out = nothing.out; err = nothing.err }, failed)
ends_plain command shelf input input' o status.WriteFault (inl (report, on, missed)) = inl (report, (on, refl), missed)
ends_plain command shelf input input' o status.WriteFault (inr (front, on, missed)) = inr (front, (on, refl), missed)
ends_plain command shelf input input' o status.Memory nothing =
    record { leaves = (nothing.leaves, refl); out = nothing.out; err = nothing.err }
ends_plain command shelf input input' o status.Stopped (report, on, wrote) = (report, (on, refl), wrote)

-- an input that was taken whole
module _ (before after : SourceState) (bytes : List ℕ) (whole : ReadWhole largest_input before after bytes) where
  is_small : nat_lt largest_input (length bytes) ≡ false
  is_small = let within = whole.within in grind (arith, nat_tests)

  whole_within : ConsumedWithin before after
  whole_within = record { bytes = bytes; within = whole.within; empty = 1; one = omega arith; consumed = whole.consumed }

-- what is answered to a source that was taken whole
module _ (before after : SourceState) (source : List ℕ) (whole : ReadWhole largest_input before after source) where
  abbrev at : SourceState → ShelfState → Inputs
  at input shelf = record { input = input; shelf = shelf }

  pub asm_answered : (shelf shelf' : ShelfState) (answer : Result Report Status)
      → Reported (CopyReported shelf shelf' source) (CopyFails shelf shelf' source) answer
      → AnswersWith AsmFiles (at before shelf) (at after shelf') answer
  asm_answered shelf shelf' (Ok report) reported =
      (source, reads_whole true before after source whole, rw (is_small before after source whole) reported)
  asm_answered shelf shelf' (Err status.ReadFault) (questions, dialogue, failed) = (
    (whole_within before after source whole, failed.within, inr (source, whole, questions, dialogue)),
    inr (source, whole, questions, dialogue, failed),
  )
  asm_answered shelf shelf' (Err status.Memory) (questions, dialogue, within) =
      (whole_within before after source whole, within, inr (source, whole, questions, dialogue))
  asm_answered shelf shelf' (Err _) fails = absurd fails

  pub watch_answered : (shelf : ShelfState) (limit : ℕ) (items : List Item) (answer : Result Report Status)
      → Reported (WatchReport limit items source) WantsMemory answer
      → AnswersWith (Watch limit items) (at before shelf) (at after shelf) answer
  watch_answered shelf limit items (Ok report) reported =
      (source, reads_whole true before after source whole, refl, rw (is_small before after source whole) reported)
  watch_answered shelf limit items (Err end) memory =
      subst (FailsWith (Watch limit items) (at before shelf) (at after shelf)) (sym memory)
      (whole_within before after source whole, refl)
