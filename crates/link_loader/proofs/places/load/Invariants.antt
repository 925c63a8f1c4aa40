use Rattle.std.proofs.Common.{◌≡◌, take, drop, None}
use Rattle.link_defs.specs.First.{first, first_after}
use Rattle.link_defs.specs.LinkedMemory.{is_outside, is_taken}
use Rattle.link_loader.specs.Holds.{HoldsWords}
use Rattle.link_loader.proofs.places.load.Given as goal

-- the words so far are loaded, each at an address of its own, and those that are left may be loaded
abbrev pub invariant-loop-word : goal.invariant-loop-word
invariant-loop-word l = record {
  inside : first_after is_outside (take l.word-index l.words) (drop l.word-index l.words) ≡ None;
  apart : first is_taken l.words ≡ first_after is_taken (take l.word-index l.words) (drop l.word-index l.words);
  loaded : HoldsWords l.table (take l.word-index l.words);
}
