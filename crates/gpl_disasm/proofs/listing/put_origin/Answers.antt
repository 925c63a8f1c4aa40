use Rattle.std.proofs.Common.{◌*◌, ◌/◌, ◌%◌, [], ◌∷◌, ◌++◌}
use Rattle.std.specs.Prelude.{codes}
use Rattle.std.proofs.lemmas.Result.{err_from_is_err_and}
use Rattle.source_defs.specs.Digits.{hex_word}
use Rattle.source_defs.specs.ListedLines.{listing_line}
use Rattle.bench_io.proofs.Writes.{missed_early, written_more}
use Rattle.gpl_disasm.proofs.listing.put_origin.Goals as goal

pub returns-in_err-put_chunk : goal.returns-in_err-put_chunk
returns-in_err-put_chunk g c =
    let p = err_from_is_err_and c.from_residual.result c.from_residual.ensures.1 in
    let missed =
    rw (c.as_bytes.ensures.value, c.as_str.ensures.value, c.named_line.ensures) at c.in_err-put_chunk.ensures in
    rw p.1
    (missed_early _ _ (listing_line (codes "GROM " ++ hex_word (c.args.at / 8192 * 8192)) ∷ [])
    (listing_line (codes "AORG " ++ hex_word (c.args.at % 8192)) ∷ []) missed)

pub returns : goal.returns
returns g c =
    let wrote =
    rw (c.as_bytes.ensures.value, c.as_str.ensures.value, c.named_line.ensures) at c.in_ok-put_chunk.ensures in
    let last =
    rw (c.as_bytes-2.ensures.value, c.as_str-2.ensures.value, c.named_line-2.ensures) at c.put_chunk-2.ensures in
    written_more _ _ _ _ (listing_line (codes "GROM " ++ hex_word (c.args.at / 8192 * 8192)) ∷ [])
    (listing_line (codes "AORG " ++ hex_word (c.args.at % 8192)) ∷ []) wrote last
