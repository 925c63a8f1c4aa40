use Rattle.std.proofs.Common.{◌≡◌, ◌++◌, map, drop}
use Rattle.object_tags.specs.Seen.{model_of_def}
use Rattle.link_defs.specs.Placing as placing
use Rattle.link_loader.proofs.parts.add_defs.Given as goal

-- the whole list, with what is left to add
abbrev pub invariant-loop-def : goal.invariant-loop-def
invariant-loop-def l = l.initial.found.items ++ map (placing.def_at l.base) (map model_of_def l.defs) ≡ l.found.items ++ map (placing.def_at l.base) (map model_of_def (drop l.def-index l.defs))
