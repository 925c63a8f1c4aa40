use Rattle.std.proofs.Common.{arith}
use Rattle.expression_defs.specs.Symbols.{look_up}
use Rattle.asm_core.proofs.AssembleLaws.{comes_within}
use Rattle.asm_core.proofs.first_pass.FirstPass.assemble_line.Goals as goal

pub bytes_of-requires : goal.bytes_of-requires
bytes_of-requires c =
    omega (
      arith,
      c.requires.room.fits,
      comes_within (look_up c.args.self.now.symbols.now) c.args.self.now.at c.args.parsed.now.statement _ c.requires.line.skeleton
          c.in-Ok.ensures,
    )
