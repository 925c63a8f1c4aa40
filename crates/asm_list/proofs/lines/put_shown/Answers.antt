use Rattle.std.proofs.Common.{◌∷◌, ◌++◌, [], List, ℕ, take, drop, sym, ap, ◌∙◌, append_assoc}
use Rattle.asm_list_defs.specs.Rows.{first_row, eight_on}
use Rattle.bench_shelf.specs.Kept.{model_of_kept}
use Rattle.asm_list.specs.Adding.{texts_in, below}
use Rattle.asm_list.proofs.RowLaws.{line_by}
use Rattle.asm_list.proofs.lines.put_shown.Goals as goal

pub returns : goal.returns
returns c =
    let line = model_of_kept c.args.line.now in
    let at = c.args.shown.now.at in
    let text = c.args.shown.now.placed.items in
    let before = texts_in c.args.rows.now.items in
    let row = first_row line at (take 24 text) in
    let others = below (eight_on at) (drop 24 text) in
    let is = rw (c.first_part.ensures.text, c.as_slice-text.ensures.value) at c.in_ok-first_row.ensures in
    let first = rw is at c.in_ok-push_row.ensures in
    let more = rw (c.eight_on.ensures, c.further_part.ensures, c.as_slice-text.ensures.value) at c.in_ok-put_below.ensures in
    more
    ∙ (ap (λ (rows : List (List ℕ)). rows ++ others) first
    ∙ (append_assoc before (row ∷ []) others ∙ ap (λ (rows : List (List ℕ)). before ++ rows) (sym (line_by line at text))))
