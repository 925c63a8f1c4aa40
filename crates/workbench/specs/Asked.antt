-- What the words ask for, as the definitions see it.
use Rattle.std.specs.Prelude.{⊤}
use Rattle.report_defs.specs.ProgramCommands as spec
use Rattle.report_defs.specs.Commands.{KeepsLimit}
use Rattle.workbench.specs.declared.command.FileCommand.{FileCommand}
use Rattle.workbench.specs.declared.command.FileCommand.TheVariants.{AsmFiles, LinkFiles, Watch}
use Rattle.workbench.specs.declared.command.ProgramCommand.{ProgramCommand}
use Rattle.workbench.specs.declared.command.ProgramCommand.TheVariants.{OverFiles, Plain}

abbrev pub model_of_over : FileCommand → spec.FileCommand
model_of_over AsmFiles = spec.AsmFiles
model_of_over (LinkFiles names) = spec.LinkFiles names
model_of_over (Watch limit items) = spec.Watch limit items

abbrev pub model_of_command : ProgramCommand → spec.ProgramCommand
model_of_command (OverFiles command) = spec.OverFiles (model_of_over command)
model_of_command (Plain command) = spec.Plain command

-- a command of `bench` is within its limits
abbrev pub IsWithin : ProgramCommand → Type 0
IsWithin (OverFiles command) = ⊤
IsWithin (Plain command) = KeepsLimit command
