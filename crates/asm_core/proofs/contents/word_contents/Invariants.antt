use Rattle.std.proofs.Common.{◌≡◌, ◌++◌, ◌+◌, ◌*◌, ◌≤◌, length}
use Rattle.std.specs.Prelude.{map}
use Rattle.object_tags.specs.Seen.{model_of_ref}
use Rattle.asm_forms.specs.Placed.{model_of_words}
use Rattle.asm_defs.proofs.PlacedWords.{word_contents, after_words}
use Rattle.asm_core.proofs.contents.word_contents.Given as goal

-- the bytes so far, and of the words that are left
abbrev pub invariant-loop-rest : goal.invariant-loop-rest
invariant-loop-rest l = record {
  within : l.place + 2 * length l.rest ≤ 65536;
  so_far : l.contents.items ++ word_contents l.at.part (map model_of_ref l.references.items) l.place (model_of_words l.rest)
      ≡ word_contents l.at.part (map model_of_ref l.fn.references.items) l.at.number (model_of_words l.words);
  uses : after_words l.at.part (map model_of_ref l.references.items) l.place (model_of_words l.rest)
      ≡ after_words l.at.part (map model_of_ref l.fn.references.items) l.at.number (model_of_words l.words);
}

abbrev pub decreases-loop-rest : goal.decreases-loop-rest
decreases-loop-rest l = length l.rest
