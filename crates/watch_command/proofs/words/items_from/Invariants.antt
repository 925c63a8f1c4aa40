use Rattle.std.proofs.Common.{◌≡◌, ◌+◌, ◌∷◌, length, drop, map}
use Rattle.std.specs.Prelude.{option_map}
use Rattle.report_defs.specs.ProgramCommands.{item_words}
use Rattle.watch_command.proofs.WordLaws.{AddsItems}
use Rattle.watch_command.proofs.words.items_from.Given as goal

-- the words so far say the items so far
abbrev pub invariant-loop-word : goal.invariant-loop-word
invariant-loop-word l = record {
  parsed :
      AddsItems l.items (map (λ word. word.items) (drop l.word-index l.words))
      (option_map (λ items. l.fn.first ∷ items) (item_words (map (λ word. word.items) l.words)));
  size : length l.items ≡ l.word-index + 1;
}
