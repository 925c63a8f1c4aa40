use Rattle.source_defs.specs.Lines.{numbered}
use Rattle.asm_core.proofs.TextLaws.{module_has_text}
use Rattle.file_commands.proofs.asm.lines_of.Goals as goal

pub write_lines-requires : goal.write_lines-requires
write_lines-requires c = module_has_text (numbered 1 c.requires.0) _ c.requires.1
