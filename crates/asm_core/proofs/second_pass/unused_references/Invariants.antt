use Rattle.std.proofs.Common.{◌≡◌, take}
use Rattle.std.specs.Prelude.{map}
use Rattle.object_tags.specs.Seen.{model_of_ref}
use Rattle.asm_defs.specs.Modules.{unused}
use Rattle.asm_core.proofs.second_pass.unused_references.Given as goal

abbrev pub invariant-loop-name : goal.invariant-loop-name
invariant-loop-name l = map model_of_ref l.references.items ≡ map unused (take l.name-index l.refs)
