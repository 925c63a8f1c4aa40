use Rattle.std.proofs.Common.{◌≡◌, take, drop}
use Rattle.link_defs.specs.First.{first, first_after}
use Rattle.link_defs.specs.LinkedMemory.{is_outside}
use Rattle.link_loader.proofs.places.check_places.Given as goal

-- the first of all is the first of those that are left
abbrev pub invariant-loop-word : goal.invariant-loop-word
invariant-loop-word l = first is_outside l.words ≡ first_after is_outside (take l.word-index l.words) (drop l.word-index l.words)
