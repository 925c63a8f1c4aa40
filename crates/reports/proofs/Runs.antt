-- How a run of a program ends, and what follows.
use Rattle.std.proofs.Common.{◌≡◌, ◌≢◌, Option, Some, None, refl, sym, ap, ◌∙◌, subst, inl, inr}
use Rattle.report_defs.specs.declared.status.Status.{Status}
use Rattle.report_defs.specs.declared.status.Status.TheVariants as status
use Rattle.report_defs.specs.Report.{Report, Whole, Faulty, Rejected, RejectedAfter, status_of}
use Rattle.base_defs.specs.Counts.{Rose}
use Rattle.reports.specs.Outputs.{Outputs, EndsWith, WroteReport, MissedReport}
use Rattle.reports.specs.Answers.{EndsByLine}
use Rattle.reports.specs.Run.{Program, Run, EndsByUsage, EndsParsed}
use Rattle.reports.proofs.Streams.{streams_get_the_report}
use Rattle.reports.specs.RunLaws.{OneReport, HasNoFault, WroteTheReport, Completeness, BeginAlike, OneAnswer, LawsOfProgram}

-- What a program's definitions have to be for its laws: reports on what was read are reports on what was shown, of which
-- there is one, and a call fails only with a count.
pub record IsProgram {C W X : Type 0} (p : Program C W X) : Type 0 where
  pub one_report : OneReport p
  pub shown : (command : C) (before after : W) (read : X) (report : Report) → p.Shows command before read
      → p.Reports command before after report → p.ReportOn command read report
  pub fails : (command : C) (before after : W) → p.ReadFails command before after → p.Fails before after

-- no report is missed by outputs that do not fail
pub no_miss : (o : Outputs) (report : Report) → (Rose o.out.faults o.out'.faults → ⊥)
    → (Rose o.err.faults o.err'.faults → ⊥) → MissedReport o report → ⊥
no_miss o (Whole status pieces) out err missed = out missed.0.rose
no_miss o (Faulty fault) out err missed = err missed.0.rose
no_miss o (Rejected line) out err missed = err missed.0.rose
no_miss o (RejectedAfter pieces line) out err (inl missed) = out missed.0.rose
no_miss o (RejectedAfter pieces line) out err (inr missed) = err missed.1.rose

module _ {C W X : Type 0} (p : Program C W X) where
  -- a run ends by the writing of a report that is no usage line
  pub by_report : (command : C) (run : Run C W) (report : Report) (end : Status)
      → p.Reports command run.before run.after report → (status_of report ≡ status.Usage → ⊥)
      → EndsWith run.outputs report end → EndsParsed p (Some command) run end
  by_report command run report status.Done is none ends = (report, is, ends)
  by_report command run report status.Refused is none ends = (report, is, ends)
  by_report command run report status.Usage is none ends = absurd (none ends.0)
  by_report command run report status.ReadFault is none ends = absurd ends
  by_report command run report status.WriteFault is none ends = inl (report, is, ends)
  by_report command run report status.Memory is none ends = absurd ends
  by_report command run report status.Stopped is none ends = (report, is, ends)

  -- a run in which no count rose wrote its report
  record Reported (command : C) (run : Run C W) (end : Status) : Type 0 where
    report : Report
    is_report : p.Reports command run.before run.after report
    status_is : end ≡ status_of report
    wrote : WroteReport run.outputs report

  reported : IsProgram p → (command : C) (run : Run C W) (end : Status) → EndsParsed p (Some command) run end
      → HasNoFault p run → end ≢ status.Memory → Reported command run end
  reported is command run status.Done (report, on, (same, wrote)) none some =
      record { report = report; is_report = on; status_is = sym same; wrote = wrote }
  reported is command run status.Refused (report, on, (same, wrote)) none some =
      record { report = report; is_report = on; status_is = sym same; wrote = wrote }
  reported is command run status.Usage ends none some = absurd ends
  reported is command run status.ReadFault (nothing, failed) none some =
      absurd (none.reading (is.fails command run.before run.after failed))
  reported is command run status.WriteFault (inl (report, on, missed)) none some =
      absurd (no_miss run.outputs report none.out none.err missed)
  reported is command run status.WriteFault (inr (front, on, missed)) none some =
      absurd (no_miss run.outputs front none.out none.err missed)
  reported is command run status.Memory nothing none some = absurd (some refl)
  reported is command run status.Stopped (report, on, (same, wrote)) none some =
      record { report = report; is_report = on; status_is = sym same; wrote = wrote }

  pub written : IsProgram p → (command : C) (run : Run C W) (read : X) (end : Status) → p.Shows command run.before read
      → HasNoFault p run → EndsParsed p (Some command) run end → end ≢ status.Memory
      → WroteTheReport (p.ReportOn command read) run.outputs end
  written is command run read end shows none ends some =
      let r = reported is command run end ends none some in
      let on = is.shown command run.before run.after read r.report shows r.is_report in
      record {
        report = r.report;
        reported = on;
        only = λ other also. is.one_report command read other r.report also on;
        status_is = r.status_is;
        wrote = r.wrote;
      }

  completeness : IsProgram p → Completeness p
  completeness is run command read end parsed shows none ends some =
      written is command run read end shows none (subst (λ found. EndsParsed p found run end) parsed ends) some

  pub usage_answer : (run : Run C W) (end : Status) → HasNoFault p run → EndsByUsage p run end → end ≡ status.Usage
  usage_answer run end none ends = by ends.line
    where
      by : EndsByLine p.usage status.Usage run.outputs.err run.outputs.err' end → end ≡ status.Usage
      by (inl (is, wrote)) = is
      by (inr (is, missed)) = absurd (none.err missed.rose)

  alike : IsProgram p → (a b : Run C W) (found : Option C) (s t : Status) → a.parsed ≡ found → BeginAlike p a b
      → HasNoFault p a → HasNoFault p b → EndsParsed p found a s → EndsParsed p found b t
      → s ≢ status.Memory → t ≢ status.Memory → s ≡ t
  alike is a b None s t parsed begin none other ends ends' some some' =
      usage_answer a s none ends ∙ sym (usage_answer b t other ends')
  alike is a b (Some command) s t parsed begin none other ends ends' some some' =
      let x = written is command a begin.read s (begin.one command parsed) none ends some in
      let y = written is command b begin.read t (begin.other command (sym begin.parsed ∙ parsed)) other ends' some' in
      x.status_is ∙ ap status_of (y.only x.report x.reported) ∙ sym y.status_is

  one_answer : IsProgram p → OneAnswer p
  one_answer is a b s t begin none other ends ends' some some' =
      let same = subst (λ found. EndsParsed p found b t) (sym begin.parsed) ends' in
      alike is a b a.parsed s t refl begin none other ends same some some'

  pub laws_of : IsProgram p → LawsOfProgram p
  laws_of is = record {
    one_report = is.one_report;
    completeness = completeness is;
    one_answer = one_answer is;
    streams = streams_get_the_report p is.one_report is.shown;
  }
