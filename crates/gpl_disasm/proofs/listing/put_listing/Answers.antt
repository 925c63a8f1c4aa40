use Rattle.std.proofs.Common.{[], ◌∷◌, ◌++◌, map}
use Rattle.std.proofs.lemmas.List.{map-append}
use Rattle.std.specs.Prelude.{codes}
use Rattle.std.proofs.lemmas.Result.{err_from_is_err_and}
use Rattle.source_defs.specs.ListedLines.{listing_line}
use Rattle.bench_io.proofs.Writes.{missed_early, missed_more, written_more}
use Rattle.gpl_listing_defs.specs.Listing.{origin_texts, texts_between, grom_listing}
use Rattle.gpl_disasm.proofs.listing.put_listing.Goals as goal

pub returns-in_err-put_origin : goal.returns-in_err-put_origin
unfolding grom_listing
returns-in_err-put_origin g c =
    let p = err_from_is_err_and c.from_residual.result c.from_residual.ensures.1 in
    rw p.1
    (missed_early _ _ (map listing_line (origin_texts c.args.low))
    (map listing_line
    (texts_between c.args.image.now c.args.low c.args.high c.args.low ++ codes "END" ∷ []))
    c.in_err-put_origin.ensures)

pub returns-in_err-put_lines : goal.returns-in_err-put_lines
unfolding grom_listing
returns-in_err-put_lines g c =
    let result = c.from_residual-in_err-put_lines in
    let texts = texts_between c.args.image.now c.args.low c.args.high c.args.low in
    let p = err_from_is_err_and result.result result.ensures.1 in
    rw (p.1, map-append listing_line texts (codes "END" ∷ []))
    (missed_more _ _ _ (map listing_line (origin_texts c.args.low)) _ c.in_ok-put_origin.ensures
    (missed_early _ _ (map listing_line texts) (listing_line (codes "END") ∷ []) c.in_err-put_lines.ensures))

pub returns : goal.returns
unfolding grom_listing
returns g c =
    let texts = texts_between c.args.image.now c.args.low c.args.high c.args.low in
    rw (map-append listing_line texts (codes "END" ∷ []))
    (written_more _ _ _ _ (map listing_line (origin_texts c.args.low)) _ c.in_ok-put_origin.ensures
    (written_more _ _ _ _ (map listing_line texts) (listing_line (codes "END") ∷ []) c.in_ok-put_lines.ensures
    c.put_chunk.ensures))
