-- How a run of a command of `ti_debug` ends over an input and a shelf.
use Rattle.std.proofs.Common.{◌≡◌, ℕ, List, length, Some, None, Bool, true, false, refl, sym, subst, inl, inr, arith}
use Rattle.std.specs.Prelude.{Option, MatchBool, Result, Ok, Err, nat_lt}
use Rattle.std.proofs.lemmas.Bool.Decides.{nat_tests}
use Rattle.bench_io.specs.Stream.{SourceState}
use Rattle.bench_io.specs.ReadAll.{ReadWhole}
use Rattle.shelf_defs.specs.Copied.{CopyRefusal, most_bytes}
use Rattle.bench_shelf.specs.States.{ShelfState}
use Rattle.bench_shelf.specs.Causes.{ReadWithinLimit}
use Rattle.report_defs.specs.declared.fault.Fault.TheVariants.{TooLarge}
use Rattle.report_defs.specs.declared.status.Status.{Status}
use Rattle.report_defs.specs.declared.status.Status.TheVariants as status
use Rattle.report_defs.specs.Report.{Report, Faulty, largest_input}
use Rattle.reports.specs.Outputs.{Outputs}
use Rattle.reports.specs.Answers.{Reported, Ends}
use Rattle.reports.specs.Run.{Run, EndsParsed}
use Rattle.reports.proofs.Runs.{by_report}
use Rattle.reports.proofs.NoUsage.{IsNoUsage, same_no_usage}
use Rattle.bench_commands.specs.InputRun as plain
use Rattle.bench_commands.specs.InputRun.{ConsumedWithin}
use Rattle.bench_commands.proofs.Ends.{reads_whole}
use Rattle.debug_report_defs.specs.declared.command.DebugCommand.{DebugCommand}
use Rattle.debug_report_defs.specs.declared.command.DebugCommand.TheVariants as command
use Rattle.debug_report_defs.specs.Listings.{rows_report}
use Rattle.debug_commands.specs.Listed.{ListReported, ListFails, EndsListed}
use Rattle.file_commands.specs.Inputs.{Inputs}
use Rattle.debug_commands.specs.Debug.{debug_input, Reports, Leaves, ReadFails, debug_program}
use Rattle.debug_commands.proofs.Ends.{input_only}

abbrev pub at : SourceState → ShelfState → Inputs
at input shelf = record { input = input; shelf = shelf }

abbrev pub run_at : DebugCommand → Inputs → Inputs → Outputs → Run DebugCommand Inputs
run_at command before after o = record { parsed = Some command; before = before; after = after; outputs = o }

-- ---- a run that leaves the shelf as it was

none_more : (shelf : ShelfState) → ReadWithinLimit most_bytes shelf shelf
none_more shelf = omega arith

module _ (shelf : ShelfState) (input input' : SourceState) where
  reports_input : (command : DebugCommand) (report : Report) → plain.Reports debug_input command input input' report
      → Reports command (at input shelf) (at input' shelf) report
  reports_input command.List report (bytes, reads, on) = (bytes, reads, by (nat_lt largest_input (length bytes)) on)
    where
      by : (large : Bool) → MatchBool large (report ≡ Faulty TooLarge) ⊥
          → MatchBool large ((report ≡ Faulty TooLarge) × (shelf ≡ shelf)) (ListReported shelf shelf bytes report)
      by true is = (is, refl)
      by false none = absurd none
  reports_input _ report on = (on, refl)

  leaves_input : (command : DebugCommand) → plain.Leaves debug_input command input input' → Leaves command (at input shelf) (at input' shelf)
  leaves_input command.List (consumed, unread) = (consumed, inl (none_more shelf), inl refl)
  leaves_input _ leaves = (leaves, refl)

  fails_input : (command : DebugCommand) → plain.ReadFails debug_input command input input' → ReadFails command (at input shelf) (at input' shelf)
  fails_input command.List (reading, rose) = inl (rose, refl)
  fails_input _ failed = failed

  pub over_input : (command : DebugCommand) (o : Outputs) (end : Status)
      → EndsParsed input_only (Some command) (record { parsed = Some command; before = input; after = input'; outputs = o }) end
      → EndsParsed debug_program (Some command) (run_at command (at input shelf) (at input' shelf) o) end
  over_input command o status.Done (report, on, wrote) = (report, reports_input command report on, wrote)
  over_input command o status.Refused (report, on, wrote) = (report, reports_input command report on, wrote)
  over_input command o status.Usage ends = absurd ends
  over_input command o status.ReadFault (nothing, failed) =
      (record { leaves = leaves_input command nothing.leaves; out = nothing.out; err = nothing.err }, fails_input command failed)
  over_input command o status.WriteFault (inl (report, on, missed)) = inl (report, reports_input command report on, missed)
  over_input command o status.WriteFault (inr (front, on, missed)) = inr (front, (on, refl), missed)
  over_input command o status.Memory nothing =
      record { leaves = leaves_input command nothing.leaves; out = nothing.out; err = nothing.err }
  over_input command o status.Stopped (report, on, wrote) = (report, reports_input command report on, wrote)

-- ---- a run of `list`

rows_no_usage : (rows : List (List ℕ)) (refusal : Option CopyRefusal) → IsNoUsage (rows_report rows refusal)
rows_no_usage rows None e = absurd cc
rows_no_usage rows (Some refusal) e = absurd cc

module _ (before after : SourceState) (source : List ℕ) (whole : ReadWhole largest_input before after source) where
  is_small : nat_lt largest_input (length source) ≡ false
  is_small = let within = whole.within in grind (arith, nat_tests)

  within : ConsumedWithin before after
  within = record { bytes = source; within = whole.within; empty = 1; one = omega arith; consumed = whole.consumed }

  module _ (shelf shelf' : ShelfState) (o : Outputs) (end : Status) where
    abbrev run : Run DebugCommand Inputs
    run = run_at command.List (at before shelf) (at after shelf') o

    answered : (answer : Result Report Status) → Reported (ListReported shelf shelf' source) (ListFails shelf shelf' source) answer
        → Ends o answer end → EndsParsed debug_program (Some command.List) run end
    answered (Ok report) reported ends =
        by_report debug_program command.List run report end
        (source, reads_whole true before after source whole, rw is_small reported)
        (same_no_usage report (rows_report reported.rows reported.refusal) reported.is (rows_no_usage reported.rows reported.refusal)) ends
    answered (Err status.Done) fails ends = absurd fails
    answered (Err status.Refused) fails ends = absurd fails
    answered (Err status.Usage) fails ends = absurd fails
    answered (Err status.ReadFault) failed (is, out, err) =
        subst (EndsParsed debug_program (Some command.List) run) (sym is) (
          record { leaves = (within, inl failed.2.within, inr (source, whole, failed.0, failed.1)); out = out; err = err },
          inr (source, whole, failed),
        )
    answered (Err status.WriteFault) fails ends = absurd fails
    answered (Err status.Memory) fails (is, out, err) =
        subst (EndsParsed debug_program (Some command.List) run) (sym is)
        (record { leaves = (within, fails.2, inr (source, whole, fails.0, fails.1)); out = out; err = err })
    answered (Err status.Stopped) fails ends = absurd fails

    pub by_listed : EndsListed shelf shelf' source o end → EndsParsed debug_program (Some command.List) run end
    by_listed (answer, reported, ends) = answered answer reported ends
