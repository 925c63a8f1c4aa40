-- What words place, and the last uses after them, each by a recursion of its own.
use Rattle.std.proofs.Common.{◌≡◌, ℕ, ◌+◌, List, [], ◌∷◌, refl}
use Rattle.std.specs.List.{flat_map}
use Rattle.expression_defs.specs.Expression.{Value}
use Rattle.object_defs.specs.Modules.{Reference}
use Rattle.asm_defs.specs.declared.content.Content.{Content}
use Rattle.asm_defs.specs.declared.content.Content.TheVariants.{First, Second}
use Rattle.asm_defs.specs.declared.location.Part.{Part}
use Rattle.asm_defs.specs.Memory.{after_word, spot_by, word_of, words_at}

-- the bytes of words, of which the first is at a place
abbrev pub word_contents : Part → List Reference → ℕ → List Value → List Content
word_contents part references at words = flat_map (λ word. First word ∷ Second ∷ []) (words_at part references at words).0

-- the last uses after words
abbrev pub after_words : Part → List Reference → ℕ → List Value → List Reference
after_words part references at words = (words_at part references at words).1

pub more_contents : (part : Part) (references : List Reference) (at : ℕ) (word : Value) (words : List Value)
    → word_contents part references at (word ∷ words)
    ≡ First (word_of references word) ∷ Second
    ∷ word_contents part (after_word references (spot_by part at) word) (at + 2) words
more_contents part references at word words = refl

pub more_uses : (part : Part) (references : List Reference) (at : ℕ) (word : Value) (words : List Value)
    → after_words part references at (word ∷ words)
    ≡ after_words part (after_word references (spot_by part at) word) (at + 2) words
more_uses part references at word words = refl
