-- Words by their addresses.
use Rattle.std.proofs.Common.{◌≡◌, ℕ, zero, suc, ◌+◌, ◌<◌, Bool, true, false, length, take, get_or, List, replicate, refl, sym, ◌∙◌, arith, Option}
use Rattle.std.proofs.Common.{Some, None}
use Rattle.std.specs.Prelude.{◌==◌, is_some, if◌then◌else◌}
use Rattle.std.proofs.lemmas.Bool.Decides.{nat_tests}
use Rattle.std.specs.Ordering.{nat_cmp, eq_by_cmp}
use Rattle.std.specs.Cmp.{nat_cmp_total}
use Rattle.std.specs.FinMap.Entries.{find-append}
use Rattle.std.proofs.lemmas.List.{take_more}
use Rattle.link_loader.specs.declared.table.Table.{Table}
use Rattle.link_loader.specs.Tables.{word_in}
use Rattle.link_loader.specs.Holds.{cell, HoldsWords}

-- places without a word have none at any address
pub none_anywhere : (count at : ℕ) → word_in (replicate count None) at ≡ None
none_anywhere zero at = refl
none_anywhere (suc count) zero = refl
none_anywhere (suc count) (suc at) = none_anywhere count at

-- a case of a test, and of an option
pub pick : {P : Type 0} (b : Bool) → (b ≡ true → P) → (b ≡ false → P) → P
pick true t f = t refl
pick false t f = f refl

pub pick_option : {A P : Type 0} (found : Option A) → (found ≡ None → P) → ((item : A) → found ≡ Some item → P) → P
pick_option None none some = none refl
pick_option (Some item) none some = some item refl

-- addresses tie where they are equal
pub ties : (a b : ℕ) → eq_by_cmp nat_cmp a b ≡ (a == b)
ties a b = grind (arith, nat_tests)

pub tied : (a b : ℕ) → eq_by_cmp nat_cmp a b ≡ true → a ≡ b
tied a b e = grind (arith, nat_tests)

-- no word where none is found
pub none_found : (found : Option ℕ) → is_some found ≡ false → found ≡ None
none_found (Some word) e = cc
none_found None e = refl

-- one word more, at an address that has none
pub word_loaded : (old new : Table) (words : List (ℕ × ℕ)) (i : ℕ) (d : ℕ × ℕ) → i < length words
    → HoldsWords old (take i words) → cell old (get_or words i d).0 ≡ None
    → ((q : ℕ) → cell new q ≡ (if q == (get_or words i d).0 then Some (get_or words i d).1 else cell old q))
    → HoldsWords new (take (i + 1) words)
word_loaded old new words i d lt holds none put at =
    let key = (get_or words i d).0 in
    rw (put at, holds at, take_more words i d lt, find-append nat_cmp nat_cmp_total (take i words) key (get_or words i d).1 at (sym (holds key) ∙ none), ties at key) refl
