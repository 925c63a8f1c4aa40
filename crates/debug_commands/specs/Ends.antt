-- How the instructions of an input are shown.
use Rattle.std.specs.Prelude.{◌≡◌, ◌⊎◌, ℕ, List, Result}
use Rattle.report_defs.specs.declared.status.Status.{Status}
use Rattle.report_defs.specs.declared.status.Status.TheVariants.{WriteFault}
use Rattle.report_defs.specs.ObjectInput.{linked_input}
use Rattle.report_defs.specs.Report.{Report}
use Rattle.machine_change_defs.specs.Reports.{StepsReport, StepsFront}
use Rattle.reports.specs.Outputs.{Outputs, MissedReport}
use Rattle.reports.specs.Answers.{WantsMemory, Reported, Ends}

-- there is a report, or memory ran out, and the run ended as its writing
abbrev pub EndsWhole : ℕ → List ℕ → Outputs → Status → Type 0
EndsWhole limit input o end =
    (answer : Result Report Status) × Reported (StepsReport limit (linked_input input)) WantsMemory answer
    × Ends o answer end

-- the output failed at a front of the report
abbrev pub EndsEarly : ℕ → List ℕ → Outputs → Status → Type 0
EndsEarly limit input o end =
    (front : Report) × StepsFront limit (linked_input input) front × (end ≡ WriteFault) × MissedReport o front

abbrev pub EndsInstructions : ℕ → List ℕ → Outputs → Status → Type 0
EndsInstructions limit input o end = EndsWhole limit input o end ⊎ EndsEarly limit input o end
