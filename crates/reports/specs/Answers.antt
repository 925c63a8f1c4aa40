-- What a command answers: a report; or why there is none.
use Rattle.std.specs.Prelude.{◌≡◌, ◌⊎◌, ℕ, List, [], ◌∷◌, Option, Some, None, Result, Ok, Err}
use Rattle.asm_core.specs.declared.error.AsmError.{AsmError}
use Rattle.asm_core.specs.declared.error.AsmError.TheVariants as asm
use Rattle.bench_io.specs.Stream.{SinkState}
use Rattle.bench_io.specs.Written.{Wrote, Missed}
use Rattle.bench_io.specs.declared.whole.ReadError.{ReadError}
use Rattle.bench_io.specs.declared.whole.ReadError.TheVariants as read
use Rattle.gpl_asm.specs.declared.error.GplError.{GplError}
use Rattle.gpl_asm.specs.declared.error.GplError.TheVariants as gpl
use Rattle.object_tags.specs.declared.error.TagError.{TagError}
use Rattle.object_tags.specs.declared.error.TagError.TheVariants as tag
use Rattle.report_defs.specs.declared.fault.Fault.TheVariants.{TooLarge}
use Rattle.report_defs.specs.declared.status.Status.{Status}
use Rattle.report_defs.specs.declared.status.Status.TheVariants as status
use Rattle.report_defs.specs.ObjectFaults.{tag_line}
use Rattle.report_defs.specs.Report.{Report, Faulty, Rejected}
use Rattle.report_defs.specs.SourceFaults.{asm_line, gpl_line}
use Rattle.reports.specs.declared.report.Report as made
use Rattle.reports.specs.declared.command_error.CommandError.{CommandError}
use Rattle.reports.specs.declared.command_error.CommandError.TheVariants.{Refused, Fault, ReadFault, Memory}
use Rattle.reports.specs.Made.{model_of_report}
use Rattle.reports.specs.Outputs.{Outputs, EndsWith}

-- A refusal is a report too, which standard error gets. Of input that failed and of a lack of memory there is none,
-- only the status.
abbrev pub error_answer : CommandError → Result Report Status
error_answer (Refused line) = Ok (Rejected line.items)
error_answer (Fault fault) = Ok (Faulty fault)
error_answer ReadFault = Err status.ReadFault
error_answer Memory = Err status.Memory

abbrev pub answer : Result made.Report CommandError → Result Report Status
answer (Ok report) = Ok (model_of_report report)
answer (Err command_error) = error_answer command_error

-- the report is such a one, and where there is none its status has such a cause
abbrev pub Reported : (Report → Type 0) → (Status → Type 0) → Result Report Status → Type 0
Reported Reports Fails (Ok report) = Reports report
Reported Reports Fails (Err end) = Fails end

-- memory alone ran out
abbrev pub WantsMemory : Status → Type 0
WantsMemory end = end ≡ status.Memory

-- there is a report in any case
abbrev pub NeverFails : Status → Type 0
NeverFails end = ⊥

-- how a run ends by its answer
abbrev pub Ends : Outputs → Result Report Status → Status → Type 0
Ends o (Ok report) end = EndsWith o report end
Ends o (Err own) end = (end ≡ own) × (o.out' ≡ o.out) × (o.err' ≡ o.err)

-- a line was written, and the status is its own; or the output failed at it
abbrev pub EndsByLine : List ℕ → Status → SinkState → SinkState → Status → Type 0
EndsByLine line own before after end =
    ((end ≡ own) × Wrote before after (line ∷ [])) ⊎ ((end ≡ status.WriteFault) × Missed before after (line ∷ []))

-- ---- what the errors of libraries answer

abbrev pub read_answer : ReadError → Result Report Status
read_answer read.TooLarge = Ok (Faulty TooLarge)
read_answer read.Fault = Err status.ReadFault
read_answer read.Memory = Err status.Memory

abbrev pub asm_answer : AsmError → Result Report Status
asm_answer (asm.At line cause) = Ok (Rejected (asm_line (record { line = line; cause = cause })))
asm_answer asm.Memory = Err status.Memory

abbrev pub gpl_answer : GplError → Result Report Status
gpl_answer (gpl.At line cause) = Ok (Rejected (gpl_line (record { line = line; cause = cause })))
gpl_answer gpl.Memory = Err status.Memory

abbrev pub tag_answer : TagError → Result Report Status
tag_answer (tag.At line cause) = Ok (Rejected (tag_line (record { line = line; cause = cause })))
tag_answer tag.Memory = Err status.Memory

-- by the line, if there is one; else memory ran out
abbrev pub line_answer : Option (List ℕ) → Result Report Status
line_answer (Some line) = Ok (Rejected line)
line_answer None = Err status.Memory
