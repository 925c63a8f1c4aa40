-- The items that words say.
use Rattle.std.proofs.Common.{◌≡◌, List, [], ◌∷◌, ◌++◌, Option, Some, None}
use Rattle.std.proofs.Common.{refl, sym, ap, ◌∙◌, append_assoc}
use Rattle.std.specs.Prelude.{ℕ, option_map, option_and_then}
use Rattle.watch_defs.specs.declared.item.Item.{Item}
use Rattle.report_defs.specs.ProgramCommands.{item_word, item_words}

-- The words that are left say what follows these items.
abbrev pub AddsItems : List Item → List (List ℕ) → Option (List Item) → Type 0
AddsItems items left all = all ≡ option_map (λ rest. items ++ rest) (item_words left)

-- by what the next word says, and by what follows
abbrev by_word : List Item → Option (List Item) → Option Item → Option (List Item)
by_word items others o =
    option_map (λ rest. items ++ rest) (option_and_then (λ item. option_map (λ rest. item ∷ rest) others) o)

after : (items : List Item) (item : Item) (others : Option (List Item))
    → by_word items others (Some item) ≡ option_map (λ rest. (items ++ item ∷ []) ++ rest) others
after items item None = refl
after items item (Some rest) = ap Some (sym (append_assoc items (item ∷ []) rest))

module _ (items : List Item) (word : List ℕ) (left : List (List ℕ)) (all : Option (List Item))
    (parsed : AddsItems items (word ∷ left) all) where
  pub adds_more : (item : Item) → Some item ≡ item_word word → AddsItems (items ++ item ∷ []) left all
  adds_more item is = parsed ∙ ap (by_word items (item_words left)) (sym is) ∙ after items item (item_words left)
