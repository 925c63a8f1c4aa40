-- What the listing of memory is assembled to.
use Rattle.std.specs.Prelude.{◌≡◌, ℕ, ◌+◌, ◌*◌, ◌%◌, ◌<◌, ◌≤◌, List, [], ◌∷◌, ◌++◌, length, codes}
use Rattle.std.specs.Prelude.{Option, Some, None, Result, Ok}
use Rattle.std.specs.List.{concat}
use Rattle.source_defs.specs.Refusals.{Refusal}
use Rattle.source_defs.specs.Digits.{hex_word}
use Rattle.source_defs.specs.ListedLines.{listing_line}
use Rattle.tms_defs.specs.Bytes.{HoldsBytes}
use Rattle.object_defs.specs.Modules.{Module}
use Rattle.asm_defs.specs.declared.causes.AsmCause.{AsmCause}
use Rattle.asm_defs.specs.Modules.{module_of_source}
use Rattle.word_listings.specs.Listing.{memory_listing, word_lines, odd_byte_lines}
use Rattle.word_listings.specs.Modules.{padded_words, module_of_words, first_wrapping, unless_far}
use Rattle.tms_defs.specs.Words.{words_of_bytes}

-- bytes that stand from an even address on, within memory
pub record AreFromEvenAddress (at : ℕ) (bytes : List ℕ) : Type 0 where
  pub holds : HoldsBytes (length bytes) bytes
  pub even : at % 2 ≡ 0
  pub below : at < 65536
  pub within : at + length bytes ≤ 65536

-- What the listing of bytes is assembled to, of which the first line is AORG: the module of their words, or the
-- refusal of the first of its jumps that wraps around the ends of memory.
abbrev pub listed_module : ℕ → List ℕ → Option ℕ → Result Module (Refusal AsmCause)
listed_module at bytes entry =
    unless_far (first_wrapping 2 at (words_of_bytes bytes)) (module_of_words at (padded_words bytes) entry)

-- The law, which is proved: the listing of bytes from an even address on is assembled to their words there and to
-- nothing else; or it is refused for the first of its jumps that wraps around the ends of memory, exactly where there
-- is one.
abbrev pub WordListingsComeBack : Type 0
WordListingsComeBack =
    (at : ℕ) (bytes : List ℕ) → AreFromEvenAddress at bytes
    → module_of_source (concat (memory_listing at bytes)) ≡ listed_module at bytes None

-- The law, which is proved: so the listing of bytes that stand far enough from the ends of memory is never refused. A
-- jump leads at most 254 bytes below its own address, and 256 above.
abbrev pub InnerListingsComeBack : Type 0
InnerListingsComeBack =
    (at : ℕ) (bytes : List ℕ) → AreFromEvenAddress at bytes → 0x00FE ≤ at → at + length bytes ≤ 0xFF01
    → module_of_source (concat (memory_listing at bytes)) ≡ Ok (module_of_words at (padded_words bytes) None)

-- the listing with an entry after END
abbrev pub entered_listing : ℕ → List ℕ → ℕ → List (List ℕ)
entered_listing at bytes entry =
    listing_line (codes "AORG " ++ hex_word at)
    ∷ (word_lines at (words_of_bytes bytes)
    ++ (odd_byte_lines bytes ++ listing_line (codes "END " ++ hex_word entry) ∷ []))

-- The law, which is proved: where its END names an entry by its address, the module has that entry, and is the same
-- otherwise.
abbrev pub EnteredListingsComeBack : Type 0
EnteredListingsComeBack =
    (at : ℕ) (bytes : List ℕ) (entry : ℕ) → AreFromEvenAddress at bytes → entry < 65536
    → module_of_source (concat (entered_listing at bytes entry)) ≡ listed_module at bytes (Some entry)

-- The law, which is proved: a listing has at most 26 bytes for each word, which is a rough bound, and 45 for its other
-- lines: AORG, BYTE of a last odd byte, and END. It is by words: the number of lines times the longest line would pass
-- the largest input.
abbrev pub WordListingsAreShort : Type 0
WordListingsAreShort =
    (at : ℕ) (bytes : List ℕ) → AreFromEvenAddress at bytes
    → length (concat (memory_listing at bytes)) ≤ 26 * length (words_of_bytes bytes) + 45
