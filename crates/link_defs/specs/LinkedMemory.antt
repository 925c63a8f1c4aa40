-- Linked memory: the words of all modules at their addresses, with the names that they define and the entry.
--
-- Editor/Assembler manual, "Tagged object code".
use Rattle.std.specs.Prelude.{ℕ, ◌==◌, ◌%◌, Bool, not, ◌&&◌, ◌||◌, is_some, nat_le, List, [], ◌∷◌, map, Option, Some}
use Rattle.std.specs.Prelude.{None, Result, Ok, Err}
use Rattle.std.specs.Option.{unwrap_or}
use Rattle.std.specs.Ordering.{nat_cmp}
use Rattle.std.specs.Cmp.Lexicographic.{slice_cmp}
use Rattle.std.specs.FinMap.{FinMap, find, from_entries}
use Rattle.object_defs.specs.Modules.{Module}
use Rattle.source_defs.specs.Refusals.{◌>>=◌}
use Rattle.link_defs.specs.Causes.{LinkCause, DuplicateDef, OutOfMemoryRange, Overlap, Unresolved, NoEntry}
use Rattle.link_defs.specs.Placing.{Section, sections, defs_of, section_words, refs_of, entries_of}
use Rattle.link_defs.specs.First.{first, refused_by}
use Rattle.link_defs.specs.Chains.{Uses, uses_of}

pub record LinkedMemory : Type 0 where
  -- the word at each address that has one
  pub words : FinMap nat_cmp ℕ
  -- the names that the modules define, with their values, in the order of the modules and of their definitions
  pub names : List (List ℕ × ℕ)
  -- the address where execution begins
  pub entry : ℕ

-- the value of a name
abbrev pub value_in : List (List ℕ × ℕ) → List ℕ → Option ℕ
value_in defs name = find (slice_cmp nat_cmp) name defs

-- a name that a DEF before defines
abbrev pub is_defined_again : List (List ℕ × ℕ) → List ℕ × ℕ → Bool
is_defined_again before definition = is_some (value_in before definition.0)

-- Profile: words are loaded at even addresses from >0002 to >1FFE, from >2000 to >3FFE, and from >A000 to >FFFE.
abbrev pub is_loadable : ℕ → Bool
is_loadable address =
    (address % 2 == 0)
    && ((nat_le 0x0002 address && nat_le address 0x3FFE) || (nat_le 0xA000 address && nat_le address 0xFFFE))

-- a word at an address where no word may be loaded
abbrev pub is_outside : List (ℕ × ℕ) → ℕ × ℕ → Bool
is_outside before word = not (is_loadable word.0)

-- a word at the address of one before
abbrev pub is_taken : List (ℕ × ℕ) → ℕ × ℕ → Bool
is_taken before word = is_some (find nat_cmp word.0 before)

-- Profile: a REF name is asked for where it is used and where it is not.
abbrev pub is_unresolved : List (List ℕ × ℕ) → List (List ℕ × ℕ) → List ℕ × ℕ → Bool
is_unresolved defs before ref = not (is_some (value_in defs ref.0))

-- Profile: the program is entered where the first module says that has an entry.
abbrev pub first_entry : List ℕ → Result ℕ LinkCause
first_entry [] = Err NoEntry
first_entry (entry ∷ entries) = Ok entry

-- a loaded word, or the value of the name that is used in its place
abbrev pub word_for : List (List ℕ × ℕ) → ℕ → Option (List ℕ) → ℕ
word_for defs word None = word
word_for defs word (Some name) = unwrap_or (value_in defs name) 0

-- Every place of a chain holds the value of its name; all other words stay.
abbrev pub filled : List (List ℕ × ℕ) → Uses → ℕ × ℕ → ℕ × ℕ
filled defs uses word = (word.0, word_for defs word.1 (find nat_cmp word.0 uses))

-- Profile: the refusals come in this order, each for all modules; of one kind the first place in the modules' order is
-- refused. Chains are read from the words as they are loaded, and filled when all are read.
abbrev pub linked_parts : List (List ℕ × ℕ) → List (ℕ × ℕ) → List (List ℕ × ℕ) → List ℕ → Result LinkedMemory LinkCause
linked_parts defs words refs entries = do
  apart ← refused_by (λ definition. DuplicateDef definition.0) (first is_defined_again defs)
  inside ← refused_by (λ word. OutOfMemoryRange word.0) (first is_outside words)
  alone ← refused_by (λ word. Overlap word.0) (first is_taken words)
  uses ← uses_of words [] refs
  known ← refused_by (λ ref. Unresolved ref.0) (first (is_unresolved defs) refs)
  entry ← first_entry entries
  Ok (record { words = from_entries (map (filled defs uses) words); names = defs; entry = entry })

abbrev pub linked_sections : List Section → Result LinkedMemory LinkCause
linked_sections sections =
    linked_parts (defs_of sections) (section_words sections) (refs_of sections) (entries_of sections)

-- the linked memory of modules, or why they are not linked
unfoldable pub linked : List Module → Result LinkedMemory LinkCause
linked modules = linked_sections (sections modules)
