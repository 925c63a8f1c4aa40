-- What a command with files answers before anything is written.
use Rattle.std.specs.Prelude.{Result}
use Rattle.report_defs.specs.declared.status.Status.{Status}
use Rattle.report_defs.specs.declared.status.Status.TheVariants as status
use Rattle.report_defs.specs.Report.{Report}
use Rattle.report_defs.specs.ProgramCommands.{FileCommand, OverFiles}
use Rattle.reports.specs.Answers.{Reported}
use Rattle.file_commands.specs.Inputs.{Inputs}
use Rattle.workbench.specs.FileProgram.{Reports, Leaves, ReadFails}

-- why there is no report, and what is left then
abbrev pub FailsWith : FileCommand → Inputs → Inputs → Status → Type 0
FailsWith command before after status.ReadFault =
    Leaves (OverFiles command) before after × ReadFails (OverFiles command) before after
FailsWith command before after status.Memory = Leaves (OverFiles command) before after
FailsWith command before after other = ⊥

abbrev pub AnswersWith : FileCommand → Inputs → Inputs → Result Report Status → Type 0
AnswersWith command before after answer =
    Reported (Reports (OverFiles command) before after) (FailsWith command before after) answer
