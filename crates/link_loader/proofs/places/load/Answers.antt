use Rattle.std.proofs.Common.{◌≡◌, ◌<◌, ◌∙◌, sym, ap, arith, length, get_or, None}
use Rattle.std.specs.Prelude.{is_some}
use Rattle.link_defs.specs.LinkedMemory.{is_outside, is_taken}
use Rattle.link_loader.specs.Holds.{cell}
use Rattle.link_loader.proofs.First.{passes, not_picked}
use Rattle.link_loader.proofs.Words.{none_found, word_loaded}
use Rattle.link_loader.proofs.places.load.Goals as goal

pub loop-word-preserved : goal.loop-word-preserved
loop-word-preserved c =
    let words = c.args.words.now in
    let i = c.loop-word.word-index in
    let kept = c.loop-word.invariant in
    let lt : i < length words = omega arith in
    let none : cell c.loop-word.table (get_or words i (0, 0)).0 ≡ None =
    none_found _ (ap is_some (sym c.get.ensures) ∙ (sym c.is_some.ensures ∙ c.if-is_some.false)) in
    record {
      inside = sym (passes is_outside words i (0, 0) lt (not_picked is_outside words i (0, 0) lt kept.inside)) ∙ kept.inside;
      apart = kept.apart ∙ passes is_taken words i (0, 0) lt (ap is_some (sym (kept.loaded (get_or words i (0, 0)).0) ∙ none));
      loaded = word_loaded c.loop-word.table c.put.new.self words i (0, 0) lt kept.loaded none c.put.ensures;
    }
