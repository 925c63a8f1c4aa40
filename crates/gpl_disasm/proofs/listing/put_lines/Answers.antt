use Rattle.std.proofs.Common.{◌+◌, [], ◌∷◌, ◌++◌, map, refl, ap, ◌∙◌}
use Rattle.std.proofs.lemmas.List.{map-append}
use Rattle.std.proofs.lemmas.Result.{err_from_is_err_and}
use Rattle.source_defs.specs.ListedLines.{listing_line}
use Rattle.bench_io.proofs.Progress.{listed_append, listed_missed_in, listed_same}
use Rattle.gpl_listing_defs.specs.Listing.{listed_at, texts_between, origin_texts_at}
use Rattle.gpl_listing_defs.proofs.LineSteps.{texts_step}
use Rattle.gpl_disasm.proofs.listing.put_lines.Goals as goal

pub returns-in_err-at : goal.returns-in_err-at
returns-in_err-at g c =
    let image = c.args.image.now in
    let at = c.loop-at.at in
    let texts = origin_texts_at c.args.low at ++ ((listed_at image at c.args.high).text ∷ []) in
    let next = at + (listed_at image at c.args.high).size in
    let rest = texts_between image c.args.low c.args.high next in
    let step =
    ap (map listing_line) (texts_step image c.args.low c.args.high at next refl c.loop-at-test.true) ∙ map-append listing_line texts rest in
    let p = err_from_is_err_and c.from_residual.result c.from_residual.ensures.1 in
    rw p.1
    (listed_missed_in _ _ _ _ (map listing_line rest) (map listing_line texts)
    (listed_same _ _ _ _ _ step c.loop-at.invariant.listed) c.in_err-at.ensures.lines)

pub loop-at-preserved : goal.loop-at-preserved
loop-at-preserved g c =
    let image = c.args.image.now in
    let at = c.loop-at.at in
    let next = c.in_ok-at.at in
    let texts = origin_texts_at c.args.low at ++ ((listed_at image at c.args.high).text ∷ []) in
    let rest = texts_between image c.args.low c.args.high next in
    let step =
    ap (map listing_line) (texts_step image c.args.low c.args.high at next c.in_ok-at.ensures.next c.loop-at-test.true)
    ∙ map-append listing_line texts rest in
    record {
      listed =
          listed_append _ _ _ _ (map listing_line rest) (map listing_line texts)
          (listed_same _ _ _ _ _ step c.loop-at.invariant.listed) c.in_ok-at.ensures.lines;
      within = c.loop-at.invariant.within;
    }
