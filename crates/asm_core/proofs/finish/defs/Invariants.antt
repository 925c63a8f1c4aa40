use Rattle.std.proofs.Common.{◌≡◌, take}
use Rattle.std.specs.Prelude.{map}
use Rattle.object_tags.specs.Seen.{model_of_def}
use Rattle.asm_defs.specs.Modules.{definition_in}
use Rattle.asm_core.proofs.finish.defs.Given as goal

abbrev pub invariant-loop-name : goal.invariant-loop-name
invariant-loop-name l = map model_of_def l.found ≡ map (definition_in l.symbols) (take l.name-index l.names)
