use Rattle.std.proofs.Common.{[], ◌∷◌, ◌++◌, map}
use Rattle.std.specs.FinMap.{entries}
use Rattle.std.proofs.lemmas.Result.{err_from_is_err_and}
use Rattle.bench_io.proofs.Writes.{missed_early, missed_more, written_more}
use Rattle.report_defs.specs.MemoryListing.{entry_line, name_line, word_rows, linked_lines}
use Rattle.link_loader.specs.View.{model_of_linked}
use Rattle.memory_listing.proofs.listing.put_memory.Goals as goal

pub returns-in_err-put_chunk : goal.returns-in_err-put_chunk
unfolding linked_lines
returns-in_err-put_chunk g c =
    let linked = model_of_linked c.args.linked.now in
    let p = err_from_is_err_and c.from_residual.result c.from_residual.ensures.1 in
    let missed = rw (c.as_slice.ensures.value, c.entry_line.ensures, c.entry.ensures) at c.in_err-put_chunk.ensures in
    rw p.1 (missed_early _ _ (entry_line linked.entry ∷ []) (map name_line linked.names ++ word_rows (entries linked.words)) missed)

pub returns-in_err-put_names : goal.returns-in_err-put_names
unfolding linked_lines
returns-in_err-put_names g c =
    let linked = model_of_linked c.args.linked.now in
    let result = c.from_residual-in_err-put_names in
    let p = err_from_is_err_and result.result result.ensures.1 in
    let wrote = rw (c.as_slice.ensures.value, c.entry_line.ensures, c.entry.ensures) at c.in_ok-put_chunk.ensures in
    let missed = rw (c.as_slice-2.ensures.value, c.names.ensures) at c.in_err-put_names.ensures in
    rw p.1 (missed_more _ _ _ (entry_line linked.entry ∷ []) _ wrote (missed_early _ _ (map name_line linked.names) (word_rows (entries linked.words)) missed))

pub returns : goal.returns
unfolding linked_lines
returns g c =
    let linked = model_of_linked c.args.linked.now in
    let wrote = rw (c.as_slice.ensures.value, c.entry_line.ensures, c.entry.ensures) at c.in_ok-put_chunk.ensures in
    let names = rw (c.as_slice-2.ensures.value, c.names.ensures) at c.in_ok-put_names.ensures in
    written_more _ _ _ _ (entry_line linked.entry ∷ []) _ wrote
    (written_more _ _ _ _ (map name_line linked.names) (word_rows (entries linked.words)) names c.put_words.ensures)
