-- What is taken of a shelf at most, by how a run ends.
use Rattle.std.proofs.Common.{◌≡◌, length, Some, None, Bool, true, false, ap, inl, inr, arith}
use Rattle.std.specs.Prelude.{Option, MatchBool, nat_lt}
use Rattle.shelf_defs.specs.Copied.{most_bytes, most_copies}
use Rattle.bench_shelf.specs.States.{ShelfState}
use Rattle.bench_shelf.proofs.AmountLaws.{dialogue_takes}
use Rattle.report_defs.specs.declared.fault.Fault.TheVariants.{TooLarge}
use Rattle.report_defs.specs.declared.status.Status.{Status}
use Rattle.report_defs.specs.declared.status.Status.TheVariants as status
use Rattle.report_defs.specs.Report.{Report, Faulty, largest_input}
use Rattle.reports.specs.Run.{Run, EndsParsed, EndsBy}
use Rattle.debug_report_defs.specs.declared.command.DebugCommand.{DebugCommand}
use Rattle.debug_report_defs.specs.declared.command.DebugCommand.TheVariants as command
use Rattle.debug_commands.specs.Listed.{ListReported}
use Rattle.file_commands.specs.Inputs.{Inputs}
use Rattle.debug_commands.specs.Debug.{Reports, Leaves, debug_program, TakesOfShelf}

abbrev Takes : DebugCommand → Inputs → Inputs → Type 0
Takes command before after = TakesOfShelf (Some command) before.shelf after.shelf

none_taken : (command : DebugCommand) (before after : ShelfState) → after ≡ before → TakesOfShelf (Some command) before after
none_taken command.List before after same =
    let opens = ap (λ (s : ShelfState). s.opens) same in
    let taken = ap (λ (s : ShelfState). s.source.taken) same in
    (omega (arith, opens), omega (arith, taken))
none_taken _ before after same = same

reporting : (command : DebugCommand) (before after : Inputs) (report : Report) → Reports command before after report
    → Takes command before after
reporting command.List before after report (source, reads, on) = by (nat_lt largest_input (length source)) on
  where
    by : (large : Bool)
        → MatchBool large ((report ≡ Faulty TooLarge) × (after.shelf ≡ before.shelf)) (ListReported before.shelf after.shelf source report)
        → Takes command.List before after
    by true on = none_taken command.List before.shelf after.shelf on.1
    by false on = dialogue_takes most_bytes most_copies _ before.shelf after.shelf on.questions on.dialogue
reporting _ before after report on = on.1

leaving : (command : DebugCommand) (before after : Inputs) → Leaves command before after → Takes command before after
leaving command.List before after (input, consumed, inl same) = none_taken command.List before.shelf after.shelf same
leaving command.List before after (input, consumed, inr (source, whole, questions, dialogue)) =
    dialogue_takes most_bytes most_copies _ before.shelf after.shelf questions dialogue
leaving _ before after leaves = leaves.1

takes_parsed : (parsed : Option DebugCommand) (run : Run DebugCommand Inputs) (end : Status)
    → EndsParsed debug_program parsed run end → TakesOfShelf parsed run.before.shelf run.after.shelf
takes_parsed None run end ends = ap (λ (r : Inputs). r.shelf) ends.unread
takes_parsed (Some command) run status.Done (report, is, wrote) = reporting command run.before run.after report is
takes_parsed (Some command) run status.Refused (report, is, wrote) = reporting command run.before run.after report is
takes_parsed (Some command) run status.Usage ends = absurd ends
takes_parsed (Some command) run status.ReadFault (nothing, failed) = leaving command run.before run.after nothing.leaves
takes_parsed (Some command) run status.WriteFault (inl (report, is, wrote)) = reporting command run.before run.after report is
takes_parsed (Some command) run status.WriteFault (inr (front, (on, same), missed)) = none_taken command run.before.shelf run.after.shelf same
takes_parsed (Some command) run status.Memory nothing = leaving command run.before run.after nothing.leaves
takes_parsed (Some command) run status.Stopped (report, is, wrote) = reporting command run.before run.after report is

pub takes_of_shelf : (run : Run DebugCommand Inputs) (end : Status) → EndsBy debug_program run end
    → TakesOfShelf run.parsed run.before.shelf run.after.shelf
takes_of_shelf run end ends = takes_parsed run.parsed run end ends
