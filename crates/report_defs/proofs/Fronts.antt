-- What is written before the end of a report is known begins the report.
use Rattle.std.proofs.Common.{◌≡◌, ℕ, ◌≤◌, List, length, refl, sym, ap, ◌∙◌, subst, arith, Option, Some, None, Bool, true, false}
use Rattle.std.specs.Prelude.{MatchBool, nat_lt, Result, Ok, Err}
use Rattle.std.proofs.lemmas.Bool.Decides.{nat_tests}
use Rattle.source_defs.specs.Refusals.{Refusal}
use Rattle.gpl_defs.specs.Image.{Image}
use Rattle.gpl_source_defs.specs.declared.causes.GplCause.{GplCause}
use Rattle.gpl_source_defs.specs.Programs.{Program, program_of_source}
use Rattle.gpl_step_defs.specs.State.{start}
use Rattle.gpl_step_defs.specs.Run.{run}
use Rattle.report_defs.specs.declared.command.Command.TheVariants.{Trace}
use Rattle.report_defs.specs.declared.fault.Fault.TheVariants.{TooLarge}
use Rattle.report_defs.specs.declared.status.Status.TheVariants.{Done}
use Rattle.report_defs.specs.Program.{program_status}
use Rattle.report_defs.specs.Trace.{ShowsChanges, step_lines, changes_text}
use Rattle.report_defs.specs.Report.{Report, Whole, Faulty, largest_input, AcceptedReport, OnInput}
use Rattle.report_defs.specs.Report.{ReportsProgram, ShowsSteps, EnteredReport, ProgramReport, run_lines, shown_lines}
use Rattle.report_defs.specs.Laws.{IsPrefixOf, PrefixesBeginReports}
use Rattle.gpl_defs.proofs.ImageLaws.{bytes_alone}

-- the lines of the steps begin the report of the run
begins_shown : (shows : ShowsChanges) (limit : ℕ) (image : Image) (entry : ℕ) (front report : Report)
    → ShowsSteps shows limit image entry front → ReportsProgram (shown_lines shows) limit image entry report → IsPrefixOf front report
begins_shown shows limit image entry front report p q =
    let shown : List ℕ → Report = λ (b : List ℕ). Whole Done (step_lines shows (start b entry) (run limit (start b entry)).done) in
    let bytes : p.bytes ≡ q.bytes = bytes_alone image p.bytes q.bytes p.of_image q.of_image in
    let same : front ≡ shown q.bytes = p.is ∙ ap shown bytes in
    let s = start q.bytes entry in
    let r = run limit s in
    let whole : IsPrefixOf (shown q.bytes) report = (program_status r.stop, run_lines (record { image = image; begun = s; made = r; left = q.left }), q.is) in
    subst (λ f. IsPrefixOf f report) (sym same) whole

begins_entered : (shows : ShowsChanges) (limit : ℕ) (image : Image) (entry : Option ℕ) (front report : Report)
    → EnteredReport (ShowsSteps shows limit) image entry front
    → EnteredReport (ReportsProgram (shown_lines shows) limit) image entry report
    → IsPrefixOf front report
begins_entered shows limit image (Some entry) front report p q = begins_shown shows limit image entry front report p q
begins_entered shows limit image None front report p q = subst (λ f. IsPrefixOf f report) (sym p) q

pub begins_program : (shows : ShowsChanges) (limit : ℕ) (source : Result Program (Refusal GplCause)) (front report : Report)
    → ProgramReport (ShowsSteps shows limit) source front → ProgramReport (ReportsProgram (shown_lines shows) limit) source report
    → IsPrefixOf front report
begins_program shows limit (Ok program) front report p q = begins_entered shows limit program.image program.entry front report p q
begins_program shows limit (Err refused) front report p q = subst (λ f. IsPrefixOf f report) (sym p) q

-- the report on an input that is not too large
pub accepted : (Accepted : List ℕ → Report → Type 0) (input : List ℕ) (report : Report) → length input ≤ largest_input
    → OnInput Accepted input report → Accepted input report
accepted Accepted input report within on = by (nat_lt largest_input (length input)) refl on
  where
    by : (large : Bool) → nat_lt largest_input (length input) ≡ large
        → MatchBool large (report ≡ Faulty TooLarge) (Accepted input report)
        → Accepted input report
    by true is on = absurd (grind (arith, nat_tests))
    by false is on = on

pub fronts_begin_reports : PrefixesBeginReports
fronts_begin_reports (Trace limit) input front report p q =
    begins_program changes_text limit (program_of_source input) front report p.1 (accepted (AcceptedReport (Trace limit)) input report p.0 q)
fronts_begin_reports _ input front report p q = absurd p
