use Rattle.std.proofs.Common.{◌≤◌, ◌∙◌, sym, ap, arith, length, drop, ◌+◌}
use Rattle.std.specs.FinMap.{entries, len-entries}
use Rattle.std.proofs.Math.ListN.{drop_of_length-le}
use Rattle.load_defs.specs.Loaded.{with_words}
use Rattle.link_loader.specs.View.{model_of_linked}
use Rattle.gpl_run.proofs.Placed.{word_more}
use Rattle.gpl_run.proofs.loading.place_words.Goals as goal

pub loop-index-preserved : goal.loop-index-preserved
loop-index-preserved c =
    let words = (model_of_linked c.args.linked.now).words in
    c.loop-index.invariant
    ∙ (word_more (entries words) c.loop-index.index _ c.loop-index.bus c.pair-at.ensures.pair
    ∙ ap (with_words (drop (c.loop-index.index + 1) (entries words))) (sym c.place.ensures))

pub returns : goal.returns
returns c =
    let words = (model_of_linked c.args.linked.now).words in
    let past : length (entries words) ≤ c.loop-index.index = omega (arith, c.loop-index-test.false, c.len-index-end.ensures, len-entries words) in
    sym (c.loop-index.invariant ∙ ap (λ left. with_words left c.loop-index.bus) (drop_of_length-le (entries words) past))
