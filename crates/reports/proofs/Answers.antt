-- What is reported, stated in other forms.
use Rattle.std.proofs.Common.{Result, Ok, Err}
use Rattle.report_defs.specs.declared.status.Status.{Status}
use Rattle.report_defs.specs.Report.{Report}
use Rattle.reports.specs.Answers.{Reported}

-- what is reported is reported as something else
pub reported_as : (First Other : Report → Type 0) (Fails : Status → Type 0) (answer : Result Report Status)
    → ((report : Report) → First report → Other report) → Reported First Fails answer → Reported Other Fails answer
reported_as First Other Fails (Ok report) more is = more report is
reported_as First Other Fails (Err end) more is = is
