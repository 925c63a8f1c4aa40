-- How a module of words is linked.
use Rattle.std.specs.Prelude.{◌≡◌, ℕ, ◌+◌, ◌-◌, ◌*◌, ◌/◌, ◌%◌, ◌==◌, ◌<◌, ◌≤◌, ◌&&◌}
use Rattle.std.specs.Prelude.{nat_le, if◌then◌else◌, List, [], ◌∷◌}
use Rattle.std.specs.Prelude.{length, slice_get, slice_index, Option, Some, None, Result, Ok, Err}
use Rattle.std.specs.List.{concat}
use Rattle.std.specs.FinMap.{get}
use Rattle.object_defs.specs.Modules.{Module}
use Rattle.object_defs.specs.Writing.{written}
use Rattle.object_defs.specs.Reading.{read}
use Rattle.link_defs.specs.Causes.{LinkCause, OutOfMemoryRange}
use Rattle.link_defs.specs.LinkedMemory.{LinkedMemory, is_loadable, linked}
use Rattle.asm_defs.specs.Modules.{module_of_source}
use Rattle.word_listings.specs.Modules.{padded_words, module_of_words}
use Rattle.word_listings.specs.Law.{AreFromEvenAddress, entered_listing}

-- the first of the addresses of words, from an address on, at which nothing is loaded
abbrev pub first_outside : ℕ → List ℕ → Option ℕ
first_outside at [] = None
first_outside at (word ∷ words) = if is_loadable at then first_outside (at + 2) words else Some at

-- the word at an address, of words that come one after the other from another on
abbrev pub word_there : ℕ → List ℕ → ℕ → Option ℕ
word_there at words address =
    if nat_le at address && ((address - at) % 2 == 0) then slice_get words ((address - at) / 2) else None

-- linked memory that holds these words from an address on and nothing else, with an entry
pub record HoldsAlone (at : ℕ) (words : List ℕ) (entry : ℕ) (memory : LinkedMemory) : Type 0 where
  pub words_are : (address : ℕ) → get memory.words address ≡ word_there at words address
  pub names_are : memory.names ≡ []
  pub entry_is : memory.entry ≡ entry

-- Linking gives such memory, unless nothing is loaded at one of the addresses: then the first of them is refused.
abbrev pub GivesWords : ℕ → List ℕ → ℕ → Option ℕ → Result LinkedMemory LinkCause → Type 0
GivesWords at words entry None answer =
    (memory : LinkedMemory) × (answer ≡ Ok memory) × HoldsAlone at words entry memory
GivesWords at words entry (Some address) answer = answer ≡ Err (OutOfMemoryRange address)

-- the text of a module reads as that module alone, and this is linked to words
pub record LinksTo (at : ℕ) (words : List ℕ) (entry : ℕ) (m : Module) : Type 0 where
  pub reads : read (written m) ≡ Ok (m ∷ [])
  pub gives : GivesWords at words entry (first_outside at words) (linked (m ∷ []))

-- The law, which is proved: the object text of a module of words with an entry reads as that module alone, and this is
-- linked to these words at their addresses and to nothing else, with that entry; or it is refused for the first address
-- at which nothing is loaded, exactly where there is one.
abbrev pub ModulesOfWordsLink : Type 0
ModulesOfWordsLink =
    (at : ℕ) (words : List ℕ) (entry : ℕ) → ((k : ℕ) → slice_index words k < 65536) → at % 2 ≡ 0
    → at + 2 * length words ≤ 65536 → entry < 65536
    → LinksTo at words entry (module_of_words at words (Some entry))

-- The law, which is proved: so where the listing of bytes with an entry after END is assembled, the object text of its
-- module is linked to the words of these bytes and to nothing else, with that entry; or it is refused as above.
abbrev pub EnteredListingsLink : Type 0
EnteredListingsLink =
    (at : ℕ) (bytes : List ℕ) (entry : ℕ) (m : Module) → AreFromEvenAddress at bytes → entry < 65536
    → module_of_source (concat (entered_listing at bytes entry)) ≡ Ok m
    → LinksTo at (padded_words bytes) entry m
