use Rattle.std.proofs.Common.{◌≡◌, ◌++◌, length}
use Rattle.std.specs.List.{flat_map}
use Rattle.asm_forms.specs.Placed.{model_of_words}
use Rattle.asm_list_defs.specs.Rows.{word_text}
use Rattle.asm_list.proofs.text.words_text.Given as goal

abbrev pub invariant-loop-rest : goal.invariant-loop-rest
invariant-loop-rest l = l.text.items ++ flat_map word_text (model_of_words l.rest) ≡ flat_map word_text (model_of_words l.words)

abbrev pub decreases-loop-rest : goal.decreases-loop-rest
decreases-loop-rest l = length l.rest
