-- What an object text gives, in the terms of the definitions.
use Rattle.std.specs.Prelude.{◌≡◌, ℕ, List, Result, Ok, Err}
use Rattle.console_defs.specs.Machine.{MachineState}
use Rattle.link_defs.specs.LinkedMemory.{LinkedMemory}
use Rattle.link_loader.specs.View.{model_of_linked}
use Rattle.link_loader.specs.declared.linked.Linked.{Linked}
use Rattle.report_defs.specs.Exec.{IsStart}
use Rattle.report_defs.specs.Report.{Report, Rejected}
use Rattle.reports.specs.declared.command_error.CommandError.{CommandError}
use Rattle.reports.specs.Answers.{WantsMemory, Reported, error_answer}

-- the line of a refusal
abbrev pub RejectsAs : Result LinkedMemory (List ℕ) → Report → Type 0
RejectsAs defined report = (line : List ℕ) × (defined ≡ Err line) × (report ≡ Rejected line)

-- what is given is what is defined; if memory ran out, nothing is stated
abbrev pub LinksInput : Result Linked CommandError → Result LinkedMemory (List ℕ) → Type 0
LinksInput (Ok linked) defined = defined ≡ Ok (model_of_linked linked)
LinksInput (Err command_error) defined = Reported (RejectsAs defined) WantsMemory (error_answer command_error)

-- a machine at the entry of the linked memory, or why there is none
abbrev pub StartsInput : Result MachineState CommandError → Result LinkedMemory (List ℕ) → Type 0
StartsInput (Ok machine) defined = (linked : LinkedMemory) × (defined ≡ Ok linked) × IsStart linked machine
StartsInput (Err command_error) defined = Reported (RejectsAs defined) WantsMemory (error_answer command_error)
