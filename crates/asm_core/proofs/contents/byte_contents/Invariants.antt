use Rattle.std.proofs.Common.{◌≡◌, ◌++◌, length}
use Rattle.std.specs.Prelude.{map}
use Rattle.asm_defs.specs.declared.content.Content.TheVariants.{Byte}
use Rattle.asm_core.proofs.contents.byte_contents.Given as goal

abbrev pub invariant-loop-rest : goal.invariant-loop-rest
invariant-loop-rest l = l.contents.items ++ map Byte l.rest ≡ map Byte l.bytes

abbrev pub decreases-loop-rest : goal.decreases-loop-rest
decreases-loop-rest l = length l.rest
