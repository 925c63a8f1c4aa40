use Rattle.std.proofs.Common.{◌≡◌, ◌++◌, map, drop}
use Rattle.object_tags.specs.Seen.{model_of_ref}
use Rattle.link_defs.specs.Placing as placing
use Rattle.link_loader.proofs.parts.add_refs.Given as goal

-- the whole list, with what is left to add
abbrev pub invariant-loop-reference : goal.invariant-loop-reference
invariant-loop-reference l = l.initial.found.items ++ map (placing.ref_at l.base) (map model_of_ref l.refs) ≡ l.found.items ++ map (placing.ref_at l.base) (map model_of_ref (drop l.reference-index l.refs))
