use Rattle.bench_commands.proofs.commands.asm.lines_of.Goals as goal

pub write_lines-requires : goal.write_lines-requires
write_lines-requires c = c.modules_have_texts.ensures _ _ c.requires
