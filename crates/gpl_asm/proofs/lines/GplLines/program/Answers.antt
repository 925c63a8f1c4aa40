use Rattle.expression_defs.proofs.DefinedNames.{grown_not}
use Rattle.gpl_asm.proofs.lines.GplLines.program.Goals as goal

pub resolve_all-requires : goal.resolve_all-requires
resolve_all-requires c = rw c.as_slice.ensures.value (c.args.self.room c.args.self.symbols (grown_not c.args.self.symbols))
