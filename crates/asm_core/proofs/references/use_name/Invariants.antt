use Rattle.std.proofs.Common.{◌≡◌, ◌++◌, take, drop}
use Rattle.std.specs.Prelude.{map}
use Rattle.object_tags.specs.Seen.{model_of_ref}
use Rattle.asm_defs.specs.Memory.{last_use, with_use}
use Rattle.asm_core.proofs.references.use_name.Given as goal

-- none of the names before is the one asked for
abbrev pub invariant-loop-index : goal.invariant-loop-index
invariant-loop-index l = record {
  same : l.references.items ≡ l.fn.references.items;
  last : last_use (map model_of_ref (drop l.index l.references.items)) l.name ≡ last_use (map model_of_ref l.references.items) l.name;
  used : map model_of_ref (take l.index l.references.items) ++ with_use (map model_of_ref (drop l.index l.references.items)) l.name l.at
      ≡ with_use (map model_of_ref l.references.items) l.name l.at;
}
