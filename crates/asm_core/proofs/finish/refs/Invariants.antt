use Rattle.std.proofs.Common.{◌≡◌, take}
use Rattle.asm_core.proofs.finish.refs.Given as goal

abbrev pub invariant-loop-reference : goal.invariant-loop-reference
invariant-loop-reference l = l.found ≡ take l.reference-index l.references
