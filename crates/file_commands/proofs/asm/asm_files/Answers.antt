use Rattle.bench_shelf.proofs.FilesLaws.{module_is_of_lines}
use Rattle.file_commands.proofs.AsmLaws.{module_reported, error_reported}
use Rattle.file_commands.proofs.asm.asm_files.Goals as goal

pub returns-in_ok-lines_of-in-Ok-clause-report : goal.returns-in_ok-lines_of-in-Ok-clause-report
returns-in_ok-lines_of-in-Ok-clause-report g c =
    module_reported _ _ c.args.text.now c.in-Ok.module _ c.in-Ok.ensures.answered c.in-Ok.ensures.within c.in_ok-lines_of-in-Ok.ensures

pub returns-in-Err-clause-report : goal.returns-in-Err-clause-report
returns-in-Err-clause-report g c =
    error_reported _ _ c.args.text.now c.in-Err.error c.command_error.result c.in-Err.ensures.answered c.in-Err.ensures.causes c.command_error.ensures

pub lines_of-requires : goal.lines_of-requires
lines_of-requires g c = module_is_of_lines _ _ c.args.text.now c.in-Ok.module c.in-Ok.ensures.answered
