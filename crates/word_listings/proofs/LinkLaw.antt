-- A module of words is read again from its text, and linked to these words.
use Rattle.std.proofs.Common.{◌≡◌, ℕ, zero, suc, ◌+◌, ◌*◌, ◌%◌, ◌<◌, ◌≤◌, Bool, true, false, not, List, [], ◌∷◌, ◌++◌, length, refl, ap, sym, ◌∙◌, subst}
use Rattle.std.proofs.Common.{Ok, Some, None, arith}
use Rattle.std.specs.Prelude.{Option, map, nat_le, if◌then◌else◌}
use Rattle.std.specs.List.{AllByRecursion}
use Rattle.std.proofs.lemmas.Bool.Decides.{nat_tests}
use Rattle.object_defs.specs.Modules.{Module, IsAtEvenPlace}
use Rattle.object_defs.specs.Laws.{FitsPiece}
use Rattle.object_laws.proofs.Written.{written_modules_are_read}
use Rattle.link_defs.specs.Placing.{sections, first_base, word_at, section_words}
use Rattle.link_defs.specs.First.{first_after}
use Rattle.link_defs.specs.LinkedMemory.{linked, linked_parts, is_outside, is_loadable}
use Rattle.line_laws.specs.KnownLines.{pieces_of}
use Rattle.line_laws.proofs.LinkedPieces.{are_words, pairs_of, pairs_there, none_taken, all_filled, append_empty, memory_of, word_found, pair_found}
use Rattle.word_listings.specs.Modules.{padded_words, module_of_words, unless_far}
use Rattle.word_listings.specs.Linking.{first_outside, GivesWords, LinksTo, ModulesOfWordsLink, EnteredListingsLink}
use Rattle.word_listings.proofs.Instructions.{AreWords}
use Rattle.word_listings.proofs.ListingLaw.{AllBytes, entered_listings_come_back}

-- ---- the text

pieces_fit : (words : List ℕ) (at : ℕ) → AreWords words → at + 2 * length words ≤ 65536 → AllByRecursion FitsPiece (pieces_of at words)
pieces_fit [] at are below = _
pieces_fit (word ∷ words) at are below =
    (record { at = omega (arith, below); word = are 0 }, pieces_fit words (at + 2) (λ k. are (suc k)) (omega (arith, below)))

pieces_even : (words : List ℕ) (at : ℕ) → at % 2 ≡ 0 → AllByRecursion IsAtEvenPlace (pieces_of at words)
pieces_even [] at even = _
pieces_even (word ∷ words) at even = (even, pieces_even words (at + 2) (omega (arith, even)))

pieces_size : (words : List ℕ) (at : ℕ) → length (pieces_of at words) ≡ length words
pieces_size [] at = refl
pieces_size (word ∷ words) at = ap suc (pieces_size words (at + 2))

-- ---- linking

-- the first pair at an address where nothing is loaded
abbrev Found : Option ℕ → Option (ℕ × ℕ) → Type 0
Found None pair = pair ≡ None
Found (Some address) pair = (word : ℕ) × (pair ≡ Some (address, word))

outside_found : (words : List ℕ) (before : List (ℕ × ℕ)) (at : ℕ) → Found (first_outside at words) (first_after is_outside before (pairs_of at words))
outside_found [] before at = refl
outside_found (word ∷ words) before at = by (is_loadable at) (outside_found words (before ++ (at, word) ∷ []) (at + 2))
  where
    by : (b : Bool) → Found (first_outside (at + 2) words) (first_after is_outside (before ++ (at, word) ∷ []) (pairs_of (at + 2) words))
        → Found (if b then first_outside (at + 2) words else Some at) (if not b then Some (at, word) else first_after is_outside (before ++ (at, word) ∷ []) (pairs_of (at + 2) words))
    by true rest = rest
    by false rest = (word, refl)

fit : (words : List ℕ) → AreWords words → are_words words ≡ true
fit [] are = refl
fit (word ∷ words) are =
    let here = are 0 in
    let first : nat_le word 0xFFFF ≡ true = grind (arith, nat_tests, here) in
    rw (first, fit words (λ k. are (suc k))) refl

module _ (at : ℕ) (words : List ℕ) (entry : ℕ) (are : AreWords words) (inside : entry < 65536) where
  abbrev pairs : List (ℕ × ℕ)
  pairs = pairs_of at words

  parts_give : (found : Option ℕ) → Found found (first_after is_outside [] pairs) → GivesWords at words entry found (linked_parts [] pairs [] (entry ∷ []))
  parts_give None none = (
    memory_of at words entry,
    rw (none, none_taken [] at words (λ at le. refl), all_filled at words) refl,
    record {
      words_are = λ address. word_found at words entry address ∙ pair_found at words address;
      names_are = refl;
      entry_is = refl;
    },
  )
  parts_give (Some address) there = rw there.1 refl

  parts_are : linked (module_of_words at words (Some entry) ∷ []) ≡ linked_parts [] pairs [] (entry ∷ [])
  unfolding linked
  parts_are =
      let own : section_words (sections (module_of_words at words (Some entry) ∷ [])) ≡ pairs =
      append_empty (map (word_at first_base) (pieces_of at words)) ∙ pairs_there first_base at words (fit words are) in
      let same : entry % 65536 ≡ entry = omega (arith, inside) in
      rw (own, same) refl

  gives : GivesWords at words entry (first_outside at words) (linked (module_of_words at words (Some entry) ∷ []))
  gives = subst (GivesWords at words entry (first_outside at words)) (sym parts_are) (parts_give (first_outside at words) (outside_found words [] at))

pub modules_of_words_link : ModulesOfWordsLink
modules_of_words_link at words entry are even below inside = record {
  reads = written_modules_are_read (module_of_words at words (Some entry))
      (record { name = refl; size = omega arith; pieces = pieces_fit words at are below; defs = _; refs = _; entry = inside })
      (record { even_places = pieces_even words at even; words = (let size = pieces_size words at in omega (arith, size, below)); defs = omega arith; refs = omega arith });
  gives = gives at words entry are inside;
}

-- ---- bytes

padded_fit : (bytes : List ℕ) → AllBytes bytes → AreWords (padded_words bytes)
padded_fit (byte ∷ []) all zero = let a = all 0 in omega (arith, a)
padded_fit (more ∷ less ∷ rest) all zero = let a = all 0 in let b = all 1 in omega (arith, a, b)
padded_fit (more ∷ less ∷ rest) all (suc k) = padded_fit rest (λ k. all (suc (suc k))) k
padded_fit _ all _ = omega arith

padded_size : (bytes : List ℕ) → 2 * length (padded_words bytes) ≤ length bytes + 1
padded_size (more ∷ less ∷ rest) = let size = padded_size rest in omega (arith, size)
padded_size _ = omega arith

-- what is not refused is the module
taken_module : (far : Option ℕ) (found m : Module) → unless_far far found ≡ Ok m → found ≡ m
taken_module None found m e = cc e
taken_module (Some number) found m e = cc e

pub entered_listings_link : EnteredListingsLink
entered_listings_link at bytes entry m after_these inside is =
    let even = after_these.even in
    let within = after_these.within in
    let size = padded_size bytes in
    let same =
    taken_module _ (module_of_words at (padded_words bytes) (Some entry)) m (sym (entered_listings_come_back at bytes entry after_these inside) ∙ is) in
    subst (LinksTo at (padded_words bytes) entry) same
    (modules_of_words_link at (padded_words bytes) entry (padded_fit bytes after_these.holds.fits) even (omega (arith, even, within, size)) inside)
