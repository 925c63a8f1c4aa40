use Rattle.std.proofs.Common.{◌≡◌, ◌+◌, ◌-◌, ◌*◌, ◌++◌, take, drop, length}
use Rattle.std.specs.List.{flat_map}
use Rattle.std.specs.FinMap.{entries}
use Rattle.report_defs.specs.MemoryListing.{word_text}
use Rattle.link_loader.specs.View.{model_of_linked}
use Rattle.memory_listing.proofs.rows.append_words.Given as goal

-- the whole text, with that of the words that are left
abbrev pub invariant-loop-index : goal.invariant-loop-index
invariant-loop-index l = record {
  bytes : l.fn.line.items ++ flat_map word_text (take (l.end - l.from) (drop l.from (entries (model_of_linked l.linked).words))) ≡ l.line.items ++ flat_map word_text (take (l.end - l.index) (drop l.index (entries (model_of_linked l.linked).words)));
  len : length l.line.items ≡ length l.fn.line.items + 5 * (l.index - l.from);
}
