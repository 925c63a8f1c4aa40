-- What is taken of a shelf at most, by how a run ends.
use Rattle.std.proofs.Common.{◌≡◌, length, Option, Some, None, Bool, true, false, ap, inl, inr, arith}
use Rattle.std.specs.Prelude.{MatchBool, nat_lt}
use Rattle.shelf_defs.specs.Copied.{most_bytes, most_copies}
use Rattle.bench_shelf.specs.States.{ShelfState}
use Rattle.bench_shelf.proofs.AmountLaws.{dialogue_takes}
use Rattle.report_defs.specs.declared.fault.Fault.TheVariants.{TooLarge}
use Rattle.report_defs.specs.declared.status.Status.{Status}
use Rattle.report_defs.specs.declared.status.Status.TheVariants as status
use Rattle.report_defs.specs.Report.{Report, Faulty, largest_input}
use Rattle.report_defs.specs.ProgramCommands.{AsmFiles, LinkFiles, Watch, ProgramCommand, OverFiles, Plain}
use Rattle.file_commands.specs.Reported.{CopyReported}
use Rattle.reports.specs.Run.{Run, EndsParsed, EndsBy}
use Rattle.file_commands.specs.Inputs.{Inputs}
use Rattle.workbench.specs.FileProgram.{Reports, Begins, Leaves, file_program, TakesOfShelf}

abbrev Takes : ProgramCommand → Inputs → Inputs → Type 0
Takes command before after = TakesOfShelf (Some command) before.shelf after.shelf

none_taken : (before after : ShelfState) → after ≡ before → TakesOfShelf (Some (OverFiles AsmFiles)) before after
none_taken before after same =
    let opens = ap (λ (s : ShelfState). s.opens) same in
    let taken = ap (λ (s : ShelfState). s.source.taken) same in
    (omega (arith, opens), omega (arith, taken))

reporting : (command : ProgramCommand) (before after : Inputs) (report : Report) → Reports command before after report
    → Takes command before after
reporting (OverFiles AsmFiles) before after report (source, reads, on) = by (nat_lt largest_input (length source)) on
  where
    by : (large : Bool)
        → MatchBool large ((report ≡ Faulty TooLarge) × (after.shelf ≡ before.shelf)) (CopyReported before.shelf after.shelf source report)
        → Takes (OverFiles AsmFiles) before after
    by true on = none_taken before.shelf after.shelf on.1
    by false on = dialogue_takes most_bytes most_copies _ before.shelf after.shelf on.questions on.dialogue
reporting (OverFiles (LinkFiles names)) before after report (same, on) =
    dialogue_takes largest_input (length names) _ before.shelf after.shelf on.questions on.dialogue
reporting (OverFiles (Watch limit items)) before after report (source, reads, same, on) = same
reporting (Plain command) before after report (on, same) = same

beginning : (command : ProgramCommand) (before after : Inputs) (front : Report) → Begins command before after front
    → Takes command before after
beginning (OverFiles command) before after front on = absurd on
beginning (Plain command) before after front (on, same) = same

leaving : (command : ProgramCommand) (before after : Inputs) → Leaves command before after → Takes command before after
leaving (OverFiles AsmFiles) before after (input, within, inl same) = none_taken before.shelf after.shelf same
leaving (OverFiles AsmFiles) before after (input, within, inr (source, whole, questions, dialogue)) =
    dialogue_takes most_bytes most_copies _ before.shelf after.shelf questions dialogue
leaving (OverFiles (LinkFiles names)) before after (input, within, questions, dialogue) =
    dialogue_takes largest_input (length names) _ before.shelf after.shelf questions dialogue
leaving (OverFiles (Watch limit items)) before after (input, same) = same
leaving (Plain command) before after (input, same) = same

takes_parsed : (parsed : Option ProgramCommand) (run : Run ProgramCommand Inputs) (end : Status)
    → EndsParsed file_program parsed run end → TakesOfShelf parsed run.before.shelf run.after.shelf
takes_parsed None run end ends = ap (λ (r : Inputs). r.shelf) ends.unread
takes_parsed (Some command) run status.Done (report, is, wrote) = reporting command run.before run.after report is
takes_parsed (Some command) run status.Refused (report, is, wrote) = reporting command run.before run.after report is
takes_parsed (Some command) run status.Usage ends = absurd ends
takes_parsed (Some command) run status.ReadFault (nothing, failed) = leaving command run.before run.after nothing.leaves
takes_parsed (Some command) run status.WriteFault (inl (report, is, wrote)) = reporting command run.before run.after report is
takes_parsed (Some command) run status.WriteFault (inr (front, is, missed)) = beginning command run.before run.after front is
takes_parsed (Some command) run status.Memory nothing = leaving command run.before run.after nothing.leaves
takes_parsed (Some command) run status.Stopped (report, is, wrote) = reporting command run.before run.after report is

pub takes_of_shelf : (run : Run ProgramCommand Inputs) (end : Status) → EndsBy file_program run end
    → TakesOfShelf run.parsed run.before.shelf run.after.shelf
takes_of_shelf run end ends = takes_parsed run.parsed run end ends
