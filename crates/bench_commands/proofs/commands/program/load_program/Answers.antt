use Rattle.gpl_source_defs.specs.Programs.{program_of_source}
use Rattle.bench_commands.proofs.LoadedSources.{source_loaded}
use Rattle.bench_commands.proofs.commands.program.load_program.Goals as goal

pub returns : goal.returns
returns c = source_loaded (program_of_source c.args.input.now) _ c.load_image.result c.in_ok-program.ensures c.load_image.ensures
