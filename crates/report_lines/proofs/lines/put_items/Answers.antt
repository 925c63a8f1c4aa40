use Rattle.std.proofs.Common.{◌≡◌, ◌+◌, ◌∷◌, drop, sym, ap, ◌∙◌, arith}
use Rattle.std.specs.List.{flat_map}
use Rattle.std.proofs.lemmas.Result.{err_from_is_err_and}
use Rattle.std.proofs.lemmas.List.{drop_more}
use Rattle.bench_io.proofs.Progress.{listed_append, listed_missed_in, listed_same}
use Rattle.report_lines.proofs.lines.put_items.Goals as goal

pub returns-in_err-put : goal.returns-in_err-put
returns-in_err-put g c =
    let lines = g.T.InLines.lines in
    let items = c.args.items.now in
    let i = c.loop-item.item-index in
    let this : drop i items ≡ c.item-item.result ∷ drop (i + 1) items =
    drop_more items i c.item-item.result (omega arith) ∙ ap (λ x. x ∷ drop (i + 1) items) (sym c.item-item.is) in
    let p = err_from_is_err_and c.from_residual.result c.from_residual.ensures.1 in
    rw p.1 (listed_missed_in _ _ _ _ (flat_map lines (drop (i + 1) items)) (lines c.item-item.result)
    (listed_same _ _ _ _ _ (ap (flat_map lines) this) c.loop-item.invariant) c.in_err-put.ensures)

pub loop-item-preserved : goal.loop-item-preserved
loop-item-preserved g c =
    let lines = g.T.InLines.lines in
    let items = c.args.items.now in
    let i = c.loop-item.item-index in
    let this : drop i items ≡ c.item-item.result ∷ drop (i + 1) items =
    drop_more items i c.item-item.result (omega arith) ∙ ap (λ x. x ∷ drop (i + 1) items) (sym c.item-item.is) in
    listed_append _ _ _ _ (flat_map lines (drop (i + 1) items)) (lines c.item-item.result)
    (listed_same _ _ _ _ _ (ap (flat_map lines) this) c.loop-item.invariant) c.in_ok-put.ensures
