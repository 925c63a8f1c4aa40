use Rattle.std.proofs.Common.{[], ◌∷◌, map}
use Rattle.std.proofs.lemmas.List.{map-append}
use Rattle.std.proofs.lemmas.Result.{err_from_is_err_and}
use Rattle.source_defs.specs.ListedLines.{listing_line}
use Rattle.bench_io.proofs.Writes.{missed_early, written_more}
use Rattle.gpl_listing_defs.specs.Listing.{listed_at, origin_texts_at}
use Rattle.gpl_disasm.proofs.listing.put_entry.Goals as goal

pub returns-in_err-put_origin_at-clause-lines : goal.returns-in_err-put_origin_at-clause-lines
returns-in_err-put_origin_at-clause-lines g c =
    let p = err_from_is_err_and c.from_residual.result c.from_residual.ensures.1 in
    rw (p.1, map-append listing_line (origin_texts_at c.args.low c.args.at) ((listed_at c.args.image.now c.args.at c.args.high).text ∷ []))
    (missed_early _ _ (map listing_line (origin_texts_at c.args.low c.args.at))
    (listing_line (listed_at c.args.image.now c.args.at c.args.high).text ∷ []) c.in_err-put_origin_at.ensures)

pub returns-clause-lines : goal.returns-clause-lines
returns-clause-lines g c =
    rw (map-append listing_line (origin_texts_at c.args.low c.args.at) ((listed_at c.args.image.now c.args.at c.args.high).text ∷ []))
    (written_more _ _ _ _ (map listing_line (origin_texts_at c.args.low c.args.at))
    (listing_line (listed_at c.args.image.now c.args.at c.args.high).text ∷ []) c.in_ok-put_origin_at.ensures
    c.put_line.ensures.lines)
