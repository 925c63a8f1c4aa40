use Rattle.std.proofs.Common.{◌≡◌, List, ◌++◌, drop, take}
use Rattle.std.specs.Prelude.{map}
use Rattle.object_defs.specs.Writing.{Item, Group, reference_text}
use Rattle.object_tags.specs.Seen.{model_of_ref}
use Rattle.std.specs.List.{AllByRecursion}
use Rattle.object_defs.specs.Laws.{FitsReference}
use Rattle.object_tags.specs.Lines.{whole}
use Rattle.object_tags.proofs.write.put_refs.Given as goal

-- the whole text, with what is left to write
abbrev pub invariant-loop-reference : goal.invariant-loop-reference
invariant-loop-reference l = record {
  wrote : (items : List Item) → whole l.initial.writer (map (λ ref. Group (reference_text (model_of_ref ref))) l.refs ++ items)
      ≡ whole l.writer (map (λ ref. Group (reference_text (model_of_ref ref))) (drop l.reference-index l.refs) ++ items);
  fits : AllByRecursion (λ ref. FitsReference (model_of_ref ref)) (take l.reference-index l.refs);
}
