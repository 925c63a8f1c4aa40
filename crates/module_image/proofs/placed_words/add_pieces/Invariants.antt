use Rattle.std.proofs.Common.{◌≡◌, ◌++◌, ◌-◌}
use Rattle.asm_defs.specs.Memory.{pieces_from}
use Rattle.module_image.specs.Tables.{cell}
use Rattle.module_image.proofs.placed_words.add_pieces.Given as goal

-- the words so far, and those that are left
abbrev pub invariant-loop-word : goal.invariant-loop-word
invariant-loop-word l =
    l.pieces ++ pieces_from (cell l.table.cells.items) l.part l.word (32768 - l.word)
    ≡ l.fn.pieces ++ pieces_from (cell l.table.cells.items) l.part 0 32768
