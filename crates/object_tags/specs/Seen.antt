-- What the definitions see of a module of the code.
use Rattle.std.specs.Prelude.{map}
use Rattle.object_defs.specs.Modules as defined
use Rattle.object_tags.specs.declared.parts.Def.{Def}
use Rattle.object_tags.specs.declared.parts.Ref.{Ref}
use Rattle.object_tags.specs.declared.parts.Module.{Module}

abbrev pub model_of_def : Def → defined.Definition
model_of_def def = record { name = def.name; value = def.value }

abbrev pub model_of_ref : Ref → defined.Reference
model_of_ref ref = record { name = ref.name; last = ref.last }

-- the module, with its names seen as their bytes
abbrev pub model_of_module : Module → defined.Module
model_of_module m =
    record {
      name = m.name;
      size = m.size;
      pieces = m.pieces;
      defs = map model_of_def m.defs;
      refs = map model_of_ref m.refs;
      entry = m.entry;
    }
