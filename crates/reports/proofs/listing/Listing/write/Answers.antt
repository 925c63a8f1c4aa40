use Rattle.std.proofs.Common.{[], ◌∷◌, ◌++◌}
use Rattle.std.specs.Prelude.{codes}
use Rattle.std.proofs.lemmas.Result.{err_from_is_err_and}
use Rattle.bench_io.proofs.Writes.{missed_early, missed_more, written_more}
use Rattle.source_defs.specs.Digits.{hex_word}
use Rattle.word_listings.specs.Listing.{listing_line, word_lines, odd_byte_lines, memory_listing}
use Rattle.reports.proofs.listing.Listing.write.Goals as goal
use Rattle.tms_defs.specs.Words.{words_of_bytes}

pub returns-in_err-put_chunk : goal.returns-in_err-put_chunk
unfolding memory_listing
returns-in_err-put_chunk g c =
    let at = c.args.self.now.at in
    let bytes = c.args.self.now.bytes.items in
    let p = err_from_is_err_and c.from_residual.result c.from_residual.ensures.1 in
    let missed = rw (c.as_slice.ensures.value, c.origin_line.ensures) at c.in_err-put_chunk.ensures in
    rw p.1
    (missed_early _ _ (listing_line (codes "AORG " ++ hex_word at) ∷ [])
    (word_lines at (words_of_bytes bytes) ++ (odd_byte_lines bytes ++ listing_line (codes "END") ∷ [])) missed)

pub returns-in_err-put_instructions : goal.returns-in_err-put_instructions
unfolding memory_listing
returns-in_err-put_instructions g c =
    let at = c.args.self.now.at in
    let bytes = c.args.self.now.bytes.items in
    let result = c.from_residual-in_err-put_instructions in
    let p = err_from_is_err_and result.result result.ensures.1 in
    let wrote = rw (c.as_slice.ensures.value, c.origin_line.ensures) at c.in_ok-put_chunk.ensures in
    let missed = rw c.as_slice-bytes.ensures.value at c.in_err-put_instructions.ensures in
    rw p.1
    (missed_more _ _ _ (listing_line (codes "AORG " ++ hex_word at) ∷ []) _ wrote
    (missed_early _ _ (word_lines at (words_of_bytes bytes)) (odd_byte_lines bytes ++ listing_line (codes "END") ∷ []) missed))

pub returns-in_err-put_odd_byte : goal.returns-in_err-put_odd_byte
unfolding memory_listing
returns-in_err-put_odd_byte g c =
    let at = c.args.self.now.at in
    let bytes = c.args.self.now.bytes.items in
    let result = c.from_residual-in_err-put_odd_byte in
    let p = err_from_is_err_and result.result result.ensures.1 in
    let wrote = rw (c.as_slice.ensures.value, c.origin_line.ensures) at c.in_ok-put_chunk.ensures in
    let words = rw c.as_slice-bytes.ensures.value at c.in_ok-put_instructions.ensures in
    let missed = rw c.as_slice-bytes.ensures.value at c.in_err-put_odd_byte.ensures in
    rw p.1
    (missed_more _ _ _ (listing_line (codes "AORG " ++ hex_word at) ∷ []) _ wrote
    (missed_more _ _ _ (word_lines at (words_of_bytes bytes)) _ words
    (missed_early _ _ (odd_byte_lines bytes) (listing_line (codes "END") ∷ []) missed)))

pub returns : goal.returns
unfolding memory_listing
returns g c =
    let at = c.args.self.now.at in
    let bytes = c.args.self.now.bytes.items in
    let wrote = rw (c.as_slice.ensures.value, c.origin_line.ensures) at c.in_ok-put_chunk.ensures in
    let words = rw c.as_slice-bytes.ensures.value at c.in_ok-put_instructions.ensures in
    let odd = rw c.as_slice-bytes.ensures.value at c.in_ok-put_odd_byte.ensures in
    written_more _ _ _ _ (listing_line (codes "AORG " ++ hex_word at) ∷ []) _ wrote
    (written_more _ _ _ _ (word_lines at (words_of_bytes bytes)) _ words
    (written_more _ _ _ _ (odd_byte_lines bytes) (listing_line (codes "END") ∷ []) odd c.put_chunk-2.ensures))
