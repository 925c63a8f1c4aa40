use Rattle.std.proofs.Common.{◌≡◌, List, ◌++◌, drop, take}
use Rattle.std.specs.Prelude.{map}
use Rattle.object_defs.specs.Writing.{Item, Group, definition_text}
use Rattle.object_tags.specs.Seen.{model_of_def}
use Rattle.std.specs.List.{AllByRecursion}
use Rattle.object_defs.specs.Laws.{FitsDefinition}
use Rattle.object_tags.specs.Lines.{whole}
use Rattle.object_tags.proofs.write.put_defs.Given as goal

-- the whole text, with what is left to write
abbrev pub invariant-loop-def : goal.invariant-loop-def
invariant-loop-def l = record {
  wrote : (items : List Item) → whole l.initial.writer (map (λ def. Group (definition_text (model_of_def def))) l.defs ++ items)
      ≡ whole l.writer (map (λ def. Group (definition_text (model_of_def def))) (drop l.def-index l.defs) ++ items);
  fits : AllByRecursion (λ def. FitsDefinition (model_of_def def)) (take l.def-index l.defs);
}
