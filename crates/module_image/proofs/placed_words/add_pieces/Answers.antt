use Rattle.std.proofs.Common.{◌+◌, ◌-◌, ◌++◌, sym, ap, ◌∙◌, arith, append_assoc, append-nil}
use Rattle.std.proofs.lemmas.Result.{err_from_is_err_and}
use Rattle.asm_defs.specs.Memory.{pieces_at, pieces_from, part_words}
use Rattle.module_image.specs.Tables.{cell}
use Rattle.module_image.proofs.PieceLaws.{pieces_step, pieces_end}
use Rattle.module_image.proofs.placed_words.add_pieces.Goals as goal

pub loop-word-preserved : goal.loop-word-preserved
loop-word-preserved c =
    let content = cell c.args.table.now.cells.items in
    let part = c.args.part in
    let word = c.loop-word.word in
    let left = 32768 - (word + 1) in
    let added = c.in_ok-add_piece.ensures {u = tt} in
    let step = pieces_step content part word (32768 - word) left (omega (arith, c.loop-word-test.true)) in
    ap (λ pieces. pieces ++ pieces_from content part (word + 1) left) added
    ∙ (append_assoc c.loop-word.pieces (pieces_at content part word) (pieces_from content part (word + 1) left)
    ∙ (ap (λ pieces. c.loop-word.pieces ++ pieces) (sym step) ∙ c.loop-word.invariant))

pub returns-in_err-add_piece : goal.returns-in_err-add_piece
returns-in_err-add_piece c =
    let p = err_from_is_err_and c.from_residual.result c.from_residual.ensures.1 in
    rw p.1 tt

pub returns : goal.returns
unfolding part_words
returns c =
    let content = cell c.args.table.now.cells.items in
    let word = c.loop-word.word in
    sym (append-nil c.loop-word.pieces)
    ∙ (ap (λ pieces. c.loop-word.pieces ++ pieces)
    (sym (pieces_end content c.args.part word (32768 - word) (omega (arith, c.loop-word-test.false))))
    ∙ c.loop-word.invariant)
