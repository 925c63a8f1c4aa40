use Rattle.std.proofs.Common.{rules}
use Rattle.asm_text.proofs.Keys.{name_lies}
use Rattle.asm_text.proofs.name.Name.of_padded.Goals as goal

pub invariant_of-result : goal.invariant_of-result
invariant_of-result c =
    name_lies c.args.bytes c.args.len c.requires.kept c.requires.within (search rules) c.requires.padded
