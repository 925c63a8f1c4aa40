use Rattle.std.proofs.Common.{◌≡◌, ◌+◌, List, [], ◌∷◌, ◌++◌, Vec, Global, ℕ, drop, length, map, sym, ap, ◌∙◌}
use Rattle.std.proofs.Common.{length-append, subst, arith}
use Rattle.std.specs.Prelude.{Option, Some, option_map}
use Rattle.std.proofs.lemmas.List.{drop_more}
use Rattle.watch_defs.specs.declared.item.Item.{Item}
use Rattle.report_defs.specs.ProgramCommands.{item_word, item_words}
use Rattle.watch_command.proofs.WordLaws.{AddsItems, adds_more}
use Rattle.watch_command.proofs.words.items_from.Goals as goal

pub loop-word-preserved : goal.loop-word-preserved
loop-word-preserved c =
    let words = c.args.words.now in
    let i = c.loop-word.word-index in
    let word = c.word-item.result in
    let items = c.loop-word.items in
    let item = c.in_ok-item_word.field-0 in
    let texts = λ (list : List (Vec ℕ Global)). map (λ (w : Vec ℕ Global). w.items) list in
    let all : Option (List Item) = option_map (λ rest. c.args.first ∷ rest) (item_words (texts words)) in
    let next : drop i words ≡ word ∷ drop (i + 1) words =
    drop_more words i word (omega arith)
    ∙ ap (λ (w : Vec ℕ Global). w ∷ drop (i + 1) words) (sym c.word-item.is) in
    let parsed =
    subst (λ (list : List (Vec ℕ Global)). AddsItems items (texts list) all) next c.loop-word.invariant.parsed in
    let is : Some item ≡ item_word word.items =
    c.in_ok-item_word.ensures.item ∙ ap item_word c.as_slice.ensures.value in
    let more = adds_more items word.items (texts (drop (i + 1) words)) all parsed item is in
    let pushed : c.push.new.self ≡ items ++ item ∷ [] = c.push.ensures in
    record {
      parsed = subst (λ (list : List Item). AddsItems list (texts (drop (i + 1) words)) all) (sym pushed) more;
      size =
          let sum = length-append items (item ∷ []) in
          let size = c.loop-word.invariant.size in
          ap length pushed ∙ omega arith;
    }
