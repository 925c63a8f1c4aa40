use Rattle.std.proofs.Common.{◌≡◌, ◌≤◌, ◌<◌, ◌+◌, ◌-◌, length, take, drop, get_or, ap, ◌∙◌, arith}
use Rattle.std.specs.FinMap.{entries, len-entries}
use Rattle.std.proofs.Math.ListN.{drop_of_length-le}
use Rattle.std.proofs.lemmas.List.{drop_more}
use Rattle.std.proofs.lemmas.Result.{err_from_is_err_and}
use Rattle.report_defs.specs.MemoryListing.{following, words_line}
use Rattle.link_loader.specs.View.{model_of_linked}
use Rattle.memory_listing.proofs.Progress.{listed_more, listed_missed, listed_same, listed_all}
use Rattle.memory_listing.proofs.Followers.{rows_by, rows_are, belongs, ended, row_at}
use Rattle.memory_listing.proofs.rows.put_words.Goals as goal
use Rattle.memory_listing.proofs.rows.put_words.Goals.{then-belonging-gt0, else-belonging-gt0+in_ok-put_chunk}

pub returns : goal.returns
returns g c =
    let words = (model_of_linked c.args.linked.now).words in
    let past : length (entries words) ≤ c.loop-index.index = omega (arith, c.loop-index-test.false, c.len-index-end.ensures, len-entries words) in
    rw (rows_are (length (entries words)) (entries words) (omega arith))
    (listed_all _ _ _ (listed_same _ _ _ _ _ (ap (rows_by c.loop-index.belonging) (drop_of_length-le (entries words) past) ∙ ended c.loop-index.belonging) c.loop-index.invariant))

pub returns-in_err-put_chunk : goal.returns-in_err-put_chunk
returns-in_err-put_chunk g c =
    let words = entries (model_of_linked c.args.linked.now).words in
    let i = c.loop-index.index in
    let more = c.following-belonging.result in
    let is : more ≡ following 7 (c.pair-at.result.0 + 2) (drop (i + 1) words) = c.following-belonging.ensures.count ∙ ap (λ at. following 7 (at + 2) (drop (i + 1) words)) c.from.ensures in
    let row = row_at c.loop-index.belonging i (i + 1 + more) more c.pair-at.result words c.if-belonging-gt0.false c.pair-at.ensures.pair (omega arith) is in
    let p = err_from_is_err_and c.from_residual.result c.from_residual.ensures.1 in
    let missed = rw (c.as_slice.ensures.value, c.words_line.ensures) at c.in_err-put_chunk.ensures in
    rw (p.1, rows_are (length words) words (omega arith)) (listed_missed _ _ _ _ (rows_by more (drop (i + 1) words)) (words_line (take (i + 1 + more - i) (drop i words))) (listed_same _ _ _ _ _ row c.loop-index.invariant) missed)

pub loop-index-preserved : goal.loop-index-preserved
loop-index-preserved g c =
    let words = (model_of_linked c.args.linked.now).words in
    let i = c.loop-index.index in
    elim c.if-belonging-gt0.branch [
      | then-belonging-gt0 w ↦
          let lt : i < length (entries words) = omega (arith, c.loop-index-test.true, c.len-index-end.ensures, len-entries words) in
          rw (w.out-is, w.belonging-is)
          (listed_same _ _ _ _ _ (ap (rows_by c.loop-index.belonging) (drop_more (entries words) i (0, 0) lt) ∙ belongs c.loop-index.belonging (get_or (entries words) i (0, 0)) (drop (i + 1) (entries words)) w.if-belonging-gt0.true) c.loop-index.invariant)
      | else-belonging-gt0+in_ok-put_chunk w ↦
          let all = entries words in
          let more = w.following-belonging.result in
          let is : more ≡ following 7 (w.pair-at.result.0 + 2) (drop (i + 1) all) = w.following-belonging.ensures.count ∙ ap (λ at. following 7 (at + 2) (drop (i + 1) all)) w.from.ensures in
          let row = row_at c.loop-index.belonging i (i + 1 + more) more w.pair-at.result all w.if-belonging-gt0.false w.pair-at.ensures.pair (omega arith) is in
          let wrote = rw (w.as_slice.ensures.value, w.words_line.ensures) at w.in_ok-put_chunk.ensures in
          rw (w.out-is, w.belonging-is)
          (listed_more _ _ _ _ (rows_by more (drop (i + 1) all)) (words_line (take (i + 1 + more - i) (drop i all))) (listed_same _ _ _ _ _ row c.loop-index.invariant) wrote)
    ]
