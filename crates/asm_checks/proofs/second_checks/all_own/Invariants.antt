use Rattle.std.proofs.Common.{◌≡◌, drop}
use Rattle.std.specs.List.{list_all}
use Rattle.asm_forms.specs.Placed.{model_of_words}
use Rattle.asm_defs.specs.Growing.{is_own}
use Rattle.asm_checks.proofs.second_checks.all_own.Given as goal

abbrev pub invariant-loop-word : goal.invariant-loop-word
invariant-loop-word l = list_all is_own (model_of_words (drop l.word-index l.words)) ≡ list_all is_own (model_of_words l.words)
