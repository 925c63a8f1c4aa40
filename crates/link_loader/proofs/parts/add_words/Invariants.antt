use Rattle.std.proofs.Common.{◌≡◌, ◌++◌, map, drop}
use Rattle.link_defs.specs.Placing as placing
use Rattle.link_loader.proofs.parts.add_words.Given as goal

-- the whole list, with what is left to add
abbrev pub invariant-loop-piece : goal.invariant-loop-piece
invariant-loop-piece l = l.initial.found.items ++ map (placing.word_at l.base) l.pieces ≡ l.found.items ++ map (placing.word_at l.base) (drop l.piece-index l.pieces)
