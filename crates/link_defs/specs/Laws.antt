-- What holds of linked memory and of chains.
use Rattle.std.specs.Prelude.{◌≡◌, ◌≢◌, ℕ, ◌<◌, nat_eq, List, [], ◌∷◌, ◌++◌, length, map, slice_index_or, Some, None}
use Rattle.std.specs.Prelude.{IsSome, Result, Ok, Err}
use Rattle.std.specs.Option.{option_map}
use Rattle.std.specs.List.{IsDistinct}
use Rattle.std.specs.Ordering.{nat_cmp}
use Rattle.std.specs.FinMap.{find, get}
use Rattle.object_defs.specs.Modules.{Module}
use Rattle.link_defs.specs.Causes.{LinkCause, DuplicateDef, OutOfMemoryRange, Overlap, ChainOutside, ChainCycle}
use Rattle.link_defs.specs.Causes.{Unresolved, NoEntry}
use Rattle.link_defs.specs.Placing.{sections, defs_of, section_words, refs_of}
use Rattle.link_defs.specs.Chains.{Uses, most_places, uses_from, uses_of}
use Rattle.link_defs.specs.LinkedMemory.{LinkedMemory, word_for, linked}

-- linked memory has a word exactly where one is placed: that word, but at a use of a name the name's value
pub record HoldsPlacedWords (modules : List Module) (memory : LinkedMemory) : Type 0 where
  pub uses : Uses
  pub are_uses : uses_of (section_words (sections modules)) [] (refs_of (sections modules)) ≡ Ok uses
  pub words : (at : ℕ) → get memory.words at
      ≡ option_map (λ word. word_for (defs_of (sections modules)) word (find nat_cmp at uses))
      (find nat_cmp at (section_words (sections modules)))
  pub alone : (k : ℕ) (d : ℕ × ℕ) → k < length (section_words (sections modules))
      → let word = slice_index_or (section_words (sections modules)) k d in
      find nat_cmp word.0 (section_words (sections modules)) ≡ Some word.1

-- the law, which is proved: what is linked holds exactly the words that the modules place
abbrev pub PlacedWordsAreHeld : Type 0
PlacedWordsAreHeld =
    (modules : List Module) (memory : LinkedMemory) → linked modules ≡ Ok memory → HoldsPlacedWords modules memory

-- a chain leads from a place through some places, each of which holds the next, to a last one
abbrev pub Leads : List (ℕ × ℕ) → ℕ → List ℕ → ℕ → Type 0
Leads words from [] last = from ≡ last
Leads words from (place ∷ places) last =
    (from ≡ place) × (place ≢ 0) × ((next : ℕ) × (find nat_cmp place words ≡ Some next) × Leads words next places last)

-- places with the name that is used there
abbrev pub used : List ℕ → List ℕ → Uses
used name places = map (λ place. (place, name)) places

-- no place is used twice, and each is one of memory but 0
pub record AreApart (uses : Uses) : Type 0 where
  pub apart : IsDistinct nat_eq (map (λ one. one.0) uses)
  pub places : (at : ℕ) → IsSome (find nat_cmp at uses) → (at < most_places) × (at ≢ 0)

-- What comes of a chain. It leads to 0, and then its places are new uses; or to a place that holds no loaded word; or
-- to one that a chain has passed.
abbrev pub ChainEnds : List (ℕ × ℕ) → List ℕ → Uses → ℕ → Result Uses LinkCause → Type 0
ChainEnds words name before last (Ok after) =
    (places : List ℕ) × Leads words last places 0 × (after ≡ before ++ used name places) × AreApart after
ChainEnds words name before last (Err (ChainOutside at)) =
    (places : List ℕ) × Leads words last places at × (at ≢ 0) × (find nat_cmp at words ≡ None)
ChainEnds words name before last (Err (ChainCycle at)) =
    (places : List ℕ) × Leads words last places at × (at ≢ 0) × IsSome (find nat_cmp at (before ++ used name places))
ChainEnds words name before last (Err (DuplicateDef other)) = ⊥
ChainEnds words name before last (Err (OutOfMemoryRange address)) = ⊥
ChainEnds words name before last (Err (Overlap address)) = ⊥
ChainEnds words name before last (Err (Unresolved other)) = ⊥
ChainEnds words name before last (Err NoEntry) = ⊥

-- the law, which is proved: a chain has the places that are reached from its last use
abbrev pub ChainsAreFollowed : Type 0
ChainsAreFollowed =
    (words : List (ℕ × ℕ)) (name : List ℕ) (before : Uses) (last : ℕ)
    → ((at : ℕ) → IsSome (find nat_cmp at words) → at < most_places) → AreApart before
    → ChainEnds words name before last (uses_from most_places words name before last)
