-- The words that are shipped, as pairs of an address and a word.
use Rattle.std.proofs.Common.{◌≡◌, ◌<◌, ◌≤◌, ℕ, ◌+◌, ◌-◌, ◌*◌, ◌/◌, ◌%◌, Bool, true, false}
use Rattle.std.proofs.Common.{List, length, slice_index, refl, sym, ap, ◌∙◌, subst, arith}
use Rattle.std.proofs.Common.{Some, None, nat_cmp, nat_le, ◌==◌, if◌then◌else◌}
use Rattle.std.specs.Prelude.{◌&&◌}
use Rattle.std.specs.List.{slice_get}
use Rattle.std.specs.FinMap.{get-entries, entries, entries_sorted, find}
use Rattle.std.proofs.lemmas.Bool.Decides.{nat_tests}
use Rattle.std.proofs.lemmas.Option.{get_or_from_slice_get, slice_get-get_or, slice_get_within}
use Rattle.link_defs.specs.LinkedMemory.{LinkedMemory}
use Rattle.native_interp.specs.declared.words.TheConstants.{INTERP}
use Rattle.interp_build_defs.specs.Building.{shipped_at, HasShipped}
use Rattle.interp_build_defs.specs.Interpreter.{IsInterpreter}
use Rattle.interp_build_defs.proofs.Pairs.{Every, Occurs, every_found, occurs, none_is_not}
use Rattle.native_interp.specs.declared.addresses.TheConstants.{ORIGIN}

-- a pair is one of the words that are shipped, at its address
pub record IsWord (shipped : List ℕ) (pair : ℕ × ℕ) : Type 0 where
  pub number : ℕ
  pub inside : number < length shipped
  pub address : pair.0 ≡ ORIGIN + 2 * number
  pub word : pair.1 ≡ slice_index shipped number

-- the test for an address of one of the words
from_test : (at : ℕ) → (nat_le ORIGIN at && (at % 2 == 0)) ≡ true → (ORIGIN ≤ at) × (at % 2 ≡ 0)
from_test at holds = grind (arith, nat_tests)

-- the address of each of the words passes it
test_from : (number : ℕ) → (nat_le ORIGIN (ORIGIN + 2 * number) && ((ORIGIN + 2 * number) % 2 == 0)) ≡ true
test_from number =
    let from : ORIGIN ≤ ORIGIN + 2 * number = omega arith in
    let whole : (ORIGIN + 2 * number) % 2 ≡ 0 = omega arith in
    grind (arith, nat_tests)

-- a word that is shipped at an address is one of them
is_word : (shipped : List ℕ) (at word : ℕ) → shipped_at shipped at ≡ Some word → IsWord shipped (at, word)
is_word shipped at word is = by (nat_le ORIGIN at && (at % 2 == 0)) refl is
  where
    by : (holds : Bool) → (nat_le ORIGIN at && (at % 2 == 0)) ≡ holds
        → (if holds then slice_get shipped ((at - ORIGIN) / 2) else None) ≡ Some word → IsWord shipped (at, word)
    by true holds found =
        let tested : (ORIGIN ≤ at) × (at % 2 ≡ 0) = from_test at holds in
        record {
          number = (at - ORIGIN) / 2;
          inside = slice_get_within shipped ((at - ORIGIN) / 2) word found;
          address = omega arith;
          word = sym (get_or_from_slice_get shipped ((at - ORIGIN) / 2) word 0 found);
        }
    by false holds found = absurd (none_is_not word None refl found)

-- each of the words is shipped at its address
shipped_word : (shipped : List ℕ) (number : ℕ) → number < length shipped
    → shipped_at shipped (ORIGIN + 2 * number) ≡ Some (slice_index shipped number)
shipped_word shipped number inside =
    let at : (ORIGIN + 2 * number - ORIGIN) / 2 ≡ number = omega arith in
    ap (λ (holds : Bool). if holds then slice_get shipped ((ORIGIN + 2 * number - ORIGIN) / 2) else None) (test_from number)
    ∙ (ap (slice_get shipped) at ∙ slice_get-get_or shipped number 0 inside)

module _ (shipped : List ℕ) (memory : LinkedMemory) (has : HasShipped shipped memory) where
  -- each pair of linked memory is one of the words
  pub all_belong : Every (IsWord shipped) (entries memory.words)
  all_belong = every_found (IsWord shipped) (entries memory.words) (entries_sorted memory.words) belongs
    where
      belongs : (pair : ℕ × ℕ) → find nat_cmp pair.0 (entries memory.words) ≡ Some pair.1 → IsWord shipped pair
      belongs pair found = is_word shipped pair.0 pair.1 (sym (has pair.0) ∙ (get-entries memory.words pair.0 ∙ found))

  -- and each of the words is there
  pub all_occur : (number : ℕ) → number < length shipped → Occurs (ORIGIN + 2 * number) (entries memory.words)
  all_occur number inside =
      occurs (ORIGIN + 2 * number) (slice_index shipped number) (entries memory.words)
      (sym (get-entries memory.words (ORIGIN + 2 * number))
      ∙ (has (ORIGIN + 2 * number) ∙ shipped_word shipped number inside))

-- the interpreter's linked memory has the interpreter's words, without its other fields
pub has_words : (shipped : List ℕ) (memory : LinkedMemory) → shipped ≡ INTERP → IsInterpreter memory → HasShipped shipped memory
has_words shipped memory same is = subst (λ (list : List ℕ). HasShipped list memory) (sym same) is.words
