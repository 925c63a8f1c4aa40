-- `bench` as a program.
use Rattle.std.specs.Prelude.{List, ℕ}
use Rattle.bench_io.specs.Stream.{SourceState}
use Rattle.report_defs.specs.declared.command.Command.{Command}
use Rattle.report_defs.specs.declared.fault.Fault.TheVariants.{Usage}
use Rattle.report_defs.specs.FaultLine.{fault_line}
use Rattle.report_defs.specs.Commands.{reads}
use Rattle.report_defs.specs.Report.{AcceptedReport, PrefixOn}
use Rattle.reports.specs.Run.{Program}
use Rattle.bench_commands.specs.InputRun.{InputCommands, input_program}

abbrev pub bench_input : InputCommands Command
bench_input =
    record { usage = fault_line Usage; reads = reads; Accepted = AcceptedReport; PrefixOn = PrefixOn }

abbrev pub bench_program : Program Command SourceState (List ℕ)
bench_program = input_program bench_input
