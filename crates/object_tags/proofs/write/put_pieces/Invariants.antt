use Rattle.std.proofs.Common.{◌≡◌, List, ◌++◌, drop, take}
use Rattle.std.specs.Prelude.{map}
use Rattle.object_defs.specs.Writing.{Item, Placed}
use Rattle.std.specs.List.{AllByRecursion}
use Rattle.object_defs.specs.Laws.{FitsPiece}
use Rattle.object_tags.specs.Lines.{whole}
use Rattle.object_tags.proofs.write.put_pieces.Given as goal

-- the whole text, with what is left to write
abbrev pub invariant-loop-piece : goal.invariant-loop-piece
invariant-loop-piece l = record {
  wrote : (items : List Item) → whole l.initial.writer (map Placed l.pieces ++ items) ≡ whole l.writer (map Placed (drop l.piece-index l.pieces) ++ items);
  fits : AllByRecursion FitsPiece (take l.piece-index l.pieces);
}
