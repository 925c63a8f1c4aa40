use Rattle.std.proofs.Common.{◌≡◌, suc, ◌+◌, ◌-◌, ◌++◌, [], ◌∷◌, take, drop, sym, ap, ◌∙◌, append_assoc, arith}
use Rattle.std.specs.List.{flat_map}
use Rattle.std.specs.FinMap.{entries}
use Rattle.report_defs.specs.MemoryListing.{word_text}
use Rattle.link_loader.specs.View.{model_of_linked}
use Rattle.memory_listing.proofs.Progress.{drop_next}
use Rattle.memory_listing.proofs.rows.append_words.Goals as goal

pub loop-index-preserved : goal.loop-index-preserved
loop-index-preserved c =
    let words = entries (model_of_linked c.args.linked.now).words in
    let i = c.loop-index.index in
    let pair = c.pair-word.result in
    let left : c.args.end - i ≡ suc (c.args.end - (i + 1)) = omega (arith, c.loop-index-test.true) in
    let next : flat_map word_text (take (c.args.end - i) (drop i words)) ≡ word_text pair ++ flat_map word_text (take (c.args.end - (i + 1)) (drop (i + 1) words)) =
    ap (λ n. flat_map word_text (take n (drop i words))) left ∙ ap (λ ws. flat_map word_text (take (suc (c.args.end - (i + 1))) ws)) (drop_next words i pair c.pair-word.ensures.pair) in
    let text : c.append.new.line.items ≡ c.loop-index.line.items ++ word_text pair =
    c.append.ensures.bytes ∙ (ap (λ front. front ++ c.word_digits.result) c.push.ensures.items
    ∙ (append_assoc c.loop-index.line.items (0x20 ∷ []) c.word_digits.result ∙ ap (λ digits. c.loop-index.line.items ++ 0x20 ∷ digits) c.word_digits.ensures)) in
    let rest = flat_map word_text (take (c.args.end - (i + 1)) (drop (i + 1) words)) in
    record {
      bytes =
          c.loop-index.invariant.bytes
          ∙ (ap (λ left. c.loop-index.line.items ++ left) next
          ∙ (sym (append_assoc c.loop-index.line.items (word_text pair) rest) ∙ ap (λ front. front ++ rest) (sym text)));
      len = omega (arith, c.append.ensures.len, c.push.ensures.len, c.loop-index.invariant.len);
    }
