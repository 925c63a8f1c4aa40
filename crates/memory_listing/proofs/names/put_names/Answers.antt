use Rattle.std.proofs.Common.{◌≡◌, ◌+◌, ◌∷◌, map, drop, sym, ap, ◌∙◌, arith}
use Rattle.std.proofs.lemmas.Result.{err_from_is_err_and}
use Rattle.std.proofs.lemmas.List.{drop_more}
use Rattle.report_defs.specs.MemoryListing.{name_line}
use Rattle.memory_listing.proofs.Progress.{listed_more, listed_missed, listed_same}
use Rattle.memory_listing.proofs.names.put_names.Goals as goal

pub returns-in_err-put_chunk : goal.returns-in_err-put_chunk
returns-in_err-put_chunk g c =
    let names = c.args.names.now in
    let i = c.loop-named.named-index in
    let this : drop i names ≡ c.named-item.result ∷ drop (i + 1) names =
    drop_more names i c.named-item.result (omega arith) ∙ ap (λ x. x ∷ drop (i + 1) names) (sym c.named-item.is) in
    let p = err_from_is_err_and c.from_residual.result c.from_residual.ensures.1 in
    let missed = rw (c.as_slice.ensures.value, c.name_line.ensures) at c.in_err-put_chunk.ensures in
    rw p.1 (listed_missed _ _ _ _ (map name_line (drop (i + 1) names)) (name_line c.named-item.result) (listed_same _ _ _ _ _ (ap (map name_line) this) c.loop-named.invariant) missed)

pub loop-named-preserved : goal.loop-named-preserved
loop-named-preserved g c =
    let names = c.args.names.now in
    let i = c.loop-named.named-index in
    let this : drop i names ≡ c.named-item.result ∷ drop (i + 1) names =
    drop_more names i c.named-item.result (omega arith) ∙ ap (λ x. x ∷ drop (i + 1) names) (sym c.named-item.is) in
    let wrote = rw (c.as_slice.ensures.value, c.name_line.ensures) at c.in_ok-put_chunk.ensures in
    listed_more _ _ _ _ (map name_line (drop (i + 1) names)) (name_line c.named-item.result) (listed_same _ _ _ _ _ (ap (map name_line) this) c.loop-named.invariant) wrote
