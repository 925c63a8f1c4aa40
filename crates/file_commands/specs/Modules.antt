-- The modules of files, and why there are none.
use Rattle.std.specs.Prelude.{◌≡◌, Result, Ok, Err}
use Rattle.report_defs.specs.Report.{Report}
use Rattle.report_defs.specs.LinkedFiles.{FilesRefusal}
use Rattle.report_defs.specs.FileReports.{files_report}
use Rattle.reports.specs.declared.command_error.CommandError.{CommandError}
use Rattle.reports.specs.Answers.{WantsMemory, Reported, error_answer}

-- the report of what is refused
abbrev pub ReportsRefused : {B : Type 0} → Result B FilesRefusal → Report → Type 0
ReportsRefused defined report =
    (refusal : FilesRefusal) × (defined ≡ Err refusal) × (report ≡ files_report (Err refusal))

-- what is found is what is defined, or the reason why there is none; if memory ran out, nothing is stated
abbrev pub GivesModules : {A B : Type 0} → (A → B) → Result A CommandError → Result B FilesRefusal → Type 0
GivesModules see (Ok value) defined = defined ≡ Ok (see value)
GivesModules see (Err command_error) defined =
    Reported (ReportsRefused defined) WantsMemory (error_answer command_error)
