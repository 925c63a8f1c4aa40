use Rattle.std.proofs.Common.{◌≡◌, suc, ◌+◌, ◌-◌, ◌++◌, [], ◌∷◌, take, drop, sym, ap, ◌∙◌, append_assoc, arith}
use Rattle.std.specs.List.{flat_map}
use Rattle.std.specs.FinMap.{entries}
use Rattle.source_defs.specs.Digits.{hex_word}
use Rattle.report_defs.specs.MemoryListing.{word_text, words_line}
use Rattle.link_loader.specs.View.{model_of_linked}
use Rattle.memory_listing.proofs.Progress.{drop_next}
use Rattle.memory_listing.proofs.rows.words_line.Goals as goal

pub returns : goal.returns
returns c =
    let words = entries (model_of_linked c.args.linked.now).words in
    let pair = c.pair-at.result in
    let left : c.args.end - c.args.from ≡ suc (c.args.end - (c.args.from + 1)) = omega (arith, c.requires.some) in
    let row : take (c.args.end - c.args.from) (drop c.args.from words) ≡ pair ∷ take (c.args.end - (c.args.from + 1)) (drop (c.args.from + 1) words) =
    ap (λ n. take n (drop c.args.from words)) left ∙ ap (take (suc (c.args.end - (c.args.from + 1)))) (drop_next words c.args.from pair c.pair-at.ensures.pair) in
    let text = flat_map word_text (take (c.args.end - c.args.from) (drop c.args.from words)) in
    let front : c.append_word.new.line.items ≡ hex_word pair.0 = c.append_word.ensures.bytes ∙ ap (λ line. line ++ hex_word pair.0) c.new-line.ensures in
    c.push.ensures.items
    ∙ (ap (λ line. line ++ 10 ∷ []) (c.append_words.ensures.bytes ∙ ap (λ line. line ++ text) front)
    ∙ (append_assoc (hex_word pair.0) text (10 ∷ [])
    ∙ (ap (λ ws. hex_word pair.0 ++ (flat_map word_text ws ++ 10 ∷ [])) row ∙ sym (ap words_line row))))
