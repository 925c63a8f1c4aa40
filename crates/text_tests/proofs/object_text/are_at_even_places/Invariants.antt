use Rattle.std.proofs.Common.{take}
use Rattle.std.specs.List.{AllByRecursion}
use Rattle.object_defs.specs.Modules.{IsAtEvenPlace}
use Rattle.text_tests.proofs.object_text.are_at_even_places.Given as goal

abbrev pub invariant-loop-word : goal.invariant-loop-word
invariant-loop-word l = AllByRecursion IsAtEvenPlace (take l.word-index l.words)
