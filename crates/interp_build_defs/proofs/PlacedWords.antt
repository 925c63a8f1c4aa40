-- What comes of words that are placed.
use Rattle.std.proofs.Common.{◌≡◌, ◌≢◌, ◌<◌, ◌≤◌, ℕ, ◌+◌, ◌-◌, ◌*◌, Bool, true, false, nat_eq, ◌⊎◌, inl, inr}
use Rattle.std.proofs.Common.{List, [], ◌∷◌, length, slice_index, refl, sym, ap, ◌∙◌, subst, arith}
use Rattle.std.proofs.lemmas.Bool.Decides.{nat_tests}
use Rattle.tms_defs.specs.Bytes.{word_in, with_word_in}
use Rattle.console_defs.specs.Memory.{Memory, Region, LowExpansion, word_placed, word_placed_in}
use Rattle.console_defs.proofs.MemoryLaws.{region_low}
use Rattle.load_defs.specs.Loaded.{with_words}
use Rattle.interp_build_defs.proofs.Bytes.{length_with, other_byte, same_word, other_word}
use Rattle.interp_build_defs.proofs.Pairs.{Every, Occurs}
use Rattle.interp_build_defs.proofs.Shipped.{IsWord}
use Rattle.native_interp.specs.declared.addresses.TheConstants.{ORIGIN}

-- a word in low expansion memory is placed there
placed_low : (memory : Memory) (number word : ℕ) → number < 4096
    → word_placed memory (ORIGIN + 2 * number) word ≡ record memory { low_expansion = with_word_in memory.low_expansion (2 * number) word }
placed_low memory number word few =
    let at : ORIGIN + 2 * number - ORIGIN ≡ 2 * number = omega arith in
    ap (λ (there : Region). word_placed_in there memory word) (region_low (ORIGIN + 2 * number) (omega arith) (omega arith) ∙ ap LowExpansion at)

-- A memory in which words were placed: all but low expansion memory is as before, each of the words that was right before
-- or occurs among the pairs is right, and after the words all is as before.
pub record Placed (shipped : List ℕ) (pairs : List (ℕ × ℕ)) (before after : Memory) : Type 0 where
  pub scratchpad : after.scratchpad ≡ before.scratchpad
  pub high_expansion : after.high_expansion ≡ before.high_expansion
  pub rom : after.rom ≡ before.rom
  pub vdp : after.vdp ≡ before.vdp
  pub grom : after.grom ≡ before.grom
  pub size : length after.low_expansion ≡ length before.low_expansion
  pub words : (number : ℕ) → number < length shipped
      → (word_in before.low_expansion (2 * number) ≡ slice_index shipped number) ⊎ Occurs (ORIGIN + 2 * number) pairs
      → word_in after.low_expansion (2 * number) ≡ slice_index shipped number
  pub beyond : (at : ℕ) → 2 * length shipped ≤ at → slice_index after.low_expansion at ≡ slice_index before.low_expansion at

-- no pair
placed_none : (shipped : List ℕ) (memory : Memory) → Placed shipped [] memory memory
placed_none shipped memory = record {
  scratchpad = refl;
  high_expansion = refl;
  rom = refl;
  vdp = refl;
  grom = refl;
  size = refl;
  words = λ number inside held. right number held;
  beyond = λ at past. refl;
}
  where
    right : (number : ℕ) → (word_in memory.low_expansion (2 * number) ≡ slice_index shipped number) ⊎ ⊥
        → word_in memory.low_expansion (2 * number) ≡ slice_index shipped number
    right number (inl is) = is
    right number (inr none) = absurd none

-- the word that was put is right, and each that was right still is
right_with : (shipped : List ℕ) (bytes : List ℕ) (put number : ℕ) → length bytes ≡ 8192 → length shipped ≤ 4096 → put < length shipped
    → (word_in bytes (2 * number) ≡ slice_index shipped number) ⊎ (put ≡ number)
    → word_in (with_word_in bytes (2 * put) (slice_index shipped put)) (2 * number) ≡ slice_index shipped number
right_with shipped bytes put number size few inside held = by (nat_eq put number) refl held
  where
    here : put ≡ number → word_in (with_word_in bytes (2 * put) (slice_index shipped put)) (2 * number) ≡ slice_index shipped number
    here same = subst
        (λ (n : ℕ). word_in (with_word_in bytes (2 * put) (slice_index shipped put)) (2 * n) ≡ slice_index shipped n) same
        (same_word bytes (2 * put) (slice_index shipped put) (omega arith))

    by : (same : Bool) → nat_eq put number ≡ same → (word_in bytes (2 * number) ≡ slice_index shipped number) ⊎ (put ≡ number)
        → word_in (with_word_in bytes (2 * put) (slice_index shipped put)) (2 * number) ≡ slice_index shipped number
    by true same was = here (grind (arith, nat_tests))
    by false same (inr is) = here is
    by false same (inl is) =
        let apart : put ≢ number = grind (arith, nat_tests) in
        other_word bytes (2 * put) (slice_index shipped put) (2 * number) (omega arith) (omega arith) (omega arith) ∙ is

-- a pair that is one of the words
placed_word : (shipped : List ℕ) (pair : ℕ × ℕ) (pairs : List (ℕ × ℕ)) (before after : Memory) (put : ℕ) → length shipped ≤ 4096
    → length before.low_expansion ≡ 8192 → put < length shipped → pair.0 ≡ ORIGIN + 2 * put
    → Placed shipped pairs (record before { low_expansion = with_word_in before.low_expansion (2 * put) (slice_index shipped put) }) after
    → Placed shipped (pair ∷ pairs) before after
placed_word shipped pair pairs before after put few size inside at placed = record {
  scratchpad = placed.scratchpad;
  high_expansion = placed.high_expansion;
  rom = placed.rom;
  vdp = placed.vdp;
  grom = placed.grom;
  size = placed.size ∙ length_with before.low_expansion (2 * put) (slice_index shipped put);
  words = λ number within held. placed.words number within (left number held);
  beyond = λ place past.
      placed.beyond place past ∙ other_byte before.low_expansion (2 * put) (slice_index shipped put) place (omega arith) (omega arith);
}
  where
    left : (number : ℕ)
        → (word_in before.low_expansion (2 * number) ≡ slice_index shipped number) ⊎ ((pair.0 ≡ ORIGIN + 2 * number) ⊎ Occurs (ORIGIN + 2 * number) pairs)
        → (word_in (with_word_in before.low_expansion (2 * put) (slice_index shipped put)) (2 * number) ≡ slice_index shipped number)
        ⊎ Occurs (ORIGIN + 2 * number) pairs
    left number (inl is) = inl (right_with shipped before.low_expansion put number size few inside (inl is))
    left number (inr (inl there)) = inl (right_with shipped before.low_expansion put number size few inside (inr (omega arith)))
    left number (inr (inr there)) = inr there

-- words of which each is one that is shipped
pub all_placed : (shipped : List ℕ) (pairs : List (ℕ × ℕ)) (memory : Memory) → length shipped ≤ 4096 → length memory.low_expansion ≡ 8192
    → Every (IsWord shipped) pairs → Placed shipped pairs memory (with_words pairs memory)
all_placed shipped [] memory few size every = placed_none shipped memory
all_placed shipped (pair ∷ pairs) memory few size (is, every) = by (λ next. all_placed shipped pairs next few)
  where
    by : ((next : Memory) → length next.low_expansion ≡ 8192 → Every (IsWord shipped) pairs → Placed shipped pairs next (with_words pairs next))
        → Placed shipped (pair ∷ pairs) memory (with_words pairs (word_placed memory pair.0 pair.1))
    by rest =
        let put : ℕ = is.number in
        let word : ℕ = slice_index shipped put in
        let next : Memory = record memory { low_expansion = with_word_in memory.low_expansion (2 * put) word } in
        let below : put < 4096 = omega (arith, is.inside) in
        let comes : word_placed memory pair.0 pair.1 ≡ next = (λ i. word_placed memory (is.address i) (is.word i)) ∙ placed_low memory put word below in
        subst (λ (there : Memory). Placed shipped (pair ∷ pairs) memory (with_words pairs there)) (sym comes)
        (placed_word shipped pair pairs memory (with_words pairs next) put few size is.inside is.address
        (rest next (length_with memory.low_expansion (2 * put) word ∙ size) every))
