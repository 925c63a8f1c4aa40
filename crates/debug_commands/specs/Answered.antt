-- How a command ends that makes its report before it writes.
use Rattle.std.specs.Prelude.{Result}
use Rattle.report_defs.specs.declared.status.Status.{Status}
use Rattle.report_defs.specs.Report.{Report}
use Rattle.reports.specs.Outputs.{Outputs}
use Rattle.reports.specs.Answers.{WantsMemory, Reported, Ends}

-- such a report was made, or memory ran out; and it was written
abbrev pub EndsAnswered : (Report → Type 0) → Outputs → Status → Type 0
EndsAnswered Reports o end = (answer : Result Report Status) × Reported Reports WantsMemory answer × Ends o answer end
