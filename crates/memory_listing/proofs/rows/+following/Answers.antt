use Rattle.std.proofs.Common.{◌≤◌, ◌+◌, length, drop, sym, ap, ◌∙◌, arith}
use Rattle.std.specs.FinMap.{entries, len-entries}
use Rattle.std.proofs.Math.ListN.{drop_of_length-le}
use Rattle.report_defs.specs.MemoryListing.{following}
use Rattle.link_loader.specs.View.{model_of_linked}
use Rattle.memory_listing.proofs.Progress.{drop_next}
use Rattle.memory_listing.proofs.Followers.{following_zero, following_none, following_other, following_more}
use Rattle.memory_listing.proofs.rows.+following.Goals as goal
use Rattle.memory_listing.proofs.rows.+following.Goals.{then-most-eq0-via-then-most-eq0, then-most-eq0-via-else-most-eq0+then-index-len}

pub returns-then-most-eq0-clause-count : goal.returns-then-most-eq0-clause-count
returns-then-most-eq0-clause-count m c =
    let words = (model_of_linked c.args.linked.now).words in
    elim c.then-most-eq0.branch [
      | then-most-eq0-via-then-most-eq0 w ↦ sym (following_zero c.args.most c.args.at _ w.if-most-eq0.true)
      | then-most-eq0-via-else-most-eq0+then-index-len w ↦
          let past : length (entries words) ≤ c.args.index = omega (arith, w.if-index-len.true, w.len.ensures, len-entries words) in
          sym (ap (following c.args.most c.args.at) (drop_of_length-le (entries words) past) ∙ following_none c.args.most c.args.at)
    ]

pub returns-then-from-at-clause-count : goal.returns-then-from-at-clause-count
returns-then-from-at-clause-count m c =
    let words = (model_of_linked c.args.linked.now).words in
    sym
    (ap (following c.args.most c.args.at) (drop_next (entries words) c.args.index c.pair-there.result c.pair-there.ensures.pair)
    ∙ following_other c.args.most c.args.at c.pair-there.result (drop (c.args.index + 1) (entries words)) (λ same. c.if-from-at.true (c.from.ensures ∙ same)))

pub returns-clause-count : goal.returns-clause-count
returns-clause-count m c =
    let words = (model_of_linked c.args.linked.now).words in
    ap (λ n. n + 1) c.following.ensures.count
    ∙ sym
    (ap (following c.args.most c.args.at) (drop_next (entries words) c.args.index c.pair-there.result c.pair-there.ensures.pair)
    ∙ following_more c.args.most c.args.at c.pair-there.result (drop (c.args.index + 1) (entries words)) c.if-most-eq0.false (sym c.from.ensures ∙ c.if-from-at.false))
