-- No report of a command has the status of words that say no command.
use Rattle.std.proofs.Common.{◌≡◌, ℕ, Option, Some, None, Bool, true, false, Result, Ok, Err, sym, subst}
use Rattle.std.specs.Prelude.{MatchBool}
use Rattle.source_defs.specs.Refusals.{Refusal}
use Rattle.gpl_defs.specs.Image.{Image}
use Rattle.gpl_step_defs.specs.declared.reason.Reason.{Reason}
use Rattle.gpl_step_defs.specs.declared.reason.Reason.TheVariants.{Exit, Opcode, Cell, Stack, Length, Register}
use Rattle.gpl_source_defs.specs.declared.causes.GplCause.{GplCause}
use Rattle.gpl_source_defs.specs.Programs.{Program}
use Rattle.report_defs.specs.declared.fault.Fault.TheVariants.{TooLarge, NoEntry}
use Rattle.report_defs.specs.declared.status.Status.TheVariants.{Usage}
use Rattle.report_defs.specs.Program.{program_status}
use Rattle.report_defs.specs.SourceFaults.{gpl_line}
use Rattle.report_defs.specs.Report.{Report, Faulty, Rejected, EnteredReport, ProgramReport, status_of}

abbrev pub IsNoUsage : Report → Type 0
IsNoUsage report = status_of report ≡ Usage → ⊥

pub same_no_usage : (report made : Report) → report ≡ made → IsNoUsage made → IsNoUsage report
same_no_usage report made is none = subst IsNoUsage (sym is) none

pub program_no_usage : (stop : Option Reason) → program_status stop ≡ Usage → ⊥
program_no_usage None e = absurd cc
program_no_usage (Some Exit) e = absurd cc
program_no_usage (Some Opcode) e = absurd cc
program_no_usage (Some Cell) e = absurd cc
program_no_usage (Some Stack) e = absurd cc
program_no_usage (Some Length) e = absurd cc
program_no_usage (Some Register) e = absurd cc

-- an input that may be too large
pub large_no_usage : (large : Bool) (report : Report) (Other : Type 0) → (Other → IsNoUsage report)
    → MatchBool large (report ≡ Faulty TooLarge) Other → IsNoUsage report
large_no_usage true report Other other is = same_no_usage report (Faulty TooLarge) is (λ e. absurd cc)
large_no_usage false report Other other on = other on

-- a source, by the reports on its program
module _ (Reports : Image → ℕ → Report → Type 0)
    (none : (image : Image) (entry : ℕ) (report : Report) → Reports image entry report → IsNoUsage report) where
  entered_no_usage : (image : Image) (entry : Option ℕ) (report : Report) → EnteredReport Reports image entry report
      → IsNoUsage report
  entered_no_usage image (Some entry) report on = none image entry report on
  entered_no_usage image None report is = same_no_usage report (Faulty NoEntry) is (λ e. absurd cc)

  pub source_no_usage : (source : Result Program (Refusal GplCause)) (report : Report)
      → ProgramReport Reports source report → IsNoUsage report
  source_no_usage (Ok program) report on = entered_no_usage program.image program.entry report on
  source_no_usage (Err refused) report is = same_no_usage report (Rejected (gpl_line refused)) is (λ e. absurd cc)
