-- What a write does to an image, and where its ends are.
use Rattle.std.proofs.Common.{◌≡◌, ℕ, zero, suc, ◌+◌, ◌<◌, ◌≤◌, ◌≢◌, Bool, true, false, length, get_or, take, drop, List, [], ◌∷◌, refl, sym, ap, ◌∙◌, min, max}
use Rattle.std.proofs.Common.{arith}
use Rattle.std.specs.Prelude.{map, ◌==◌, if◌then◌else◌}
use Rattle.std.proofs.lemmas.Bool.Decides.{nat_tests}
use Rattle.std.specs.List.{range_with_len}
use Rattle.std.proofs.lemmas.List.{drop_more, ext_get_or, nil_from_length}
use Rattle.std.specs.Ordering.{nat_cmp, eq_by_cmp}
use Rattle.std.specs.Cmp.{nat_cmp_total}
use Rattle.std.specs.FinMap.{empty, entries, insert, put, len-entries, len-empty, entries-insert, nat_cmp-IsAntisymmetric}
use Rattle.std.specs.FinMap.Entries.{by_order}
use Rattle.std.specs.declared.cmp.Ordering.{Ordering}
use Rattle.std.specs.declared.cmp.Ordering.TheVariants.{Less, Equal, Greater}
use Rattle.gpl_defs.specs.Image.{Image, AreBytesOf, lowest, past_highest, low_of, high_of}

lowest_put : (k v : ℕ) (es : List (ℕ × ℕ)) → lowest (put nat_cmp k v es) ≡ min k (lowest es)
lowest_put k v [] = refl
lowest_put k v (e ∷ es) =
    elim (nat_cmp k e.0) as (λ r. nat_cmp k e.0 ≡ r → lowest (by_order r ((k, v) ∷ e ∷ es) ((e.0, v) ∷ es) (e ∷ put nat_cmp k v es)) ≡ min k (min e.0 (lowest es))) [
      | Less ↦ λ p. refl
      | Equal ↦ λ p. let same : k ≡ e.0 = nat_cmp-IsAntisymmetric k e.0 p in omega arith
      | Greater ↦ λ p. omega (arith, lowest_put k v es)
    ] refl

past_highest_put : (k v : ℕ) (es : List (ℕ × ℕ)) → past_highest (put nat_cmp k v es) ≡ max (k + 1) (past_highest es)
past_highest_put k v [] = omega arith
past_highest_put k v (e ∷ es) =
    elim (nat_cmp k e.0) as (λ r. nat_cmp k e.0 ≡ r → past_highest (by_order r ((k, v) ∷ e ∷ es) ((e.0, v) ∷ es) (e ∷ put nat_cmp k v es)) ≡ max (k + 1) (max (e.0 + 1) (past_highest es))) [
      | Less ↦ λ p. refl
      | Equal ↦ λ p. let same : k ≡ e.0 = nat_cmp-IsAntisymmetric k e.0 p in omega arith
      | Greater ↦ λ p. omega (arith, past_highest_put k v es)
    ] refl

-- a write moves the lowest address down to its own, or not at all
pub lowest-insert : (image : Image) (at byte : ℕ) → lowest (entries (insert image at byte)) ≡ min at (lowest (entries image))
lowest-insert image at byte = ap lowest (entries-insert nat_cmp_total image at byte) ∙ lowest_put at byte (entries image)

-- a write moves the end up to one past its own address, or not at all
pub past_highest-insert : (image : Image) (at byte : ℕ) → past_highest (entries (insert image at byte)) ≡ max (at + 1) (past_highest (entries image))
past_highest-insert image at byte = ap past_highest (entries-insert nat_cmp_total image at byte) ∙ past_highest_put at byte (entries image)

lowest_of_none : (es : List (ℕ × ℕ)) → past_highest es ≡ 0 → lowest es ≡ 65536
lowest_of_none [] none = refl
lowest_of_none (e ∷ es) none = absurd (omega arith)

pub high_of-insert : (image : Image) (at byte : ℕ) → high_of (insert image at byte) ≡ max (high_of image) (at + 1)
high_of-insert image at byte = omega (arith, past_highest-insert image at byte)

low_by : (at low high : ℕ) (none : Bool) → (high == 0) ≡ none → at < 65536 → (high ≡ 0 → low ≡ 65536) → (if max high (at + 1) == 0 then 0 else min at low) ≡ (if none then at else min (if none then 0 else low) at)
low_by at low high true is lt empty = grind (arith, nat_tests)
low_by at low high false is lt empty = grind (arith, nat_tests)

-- the first write sets the lowest address, and each later one moves it down or not at all
pub low_of-insert : (image : Image) (at byte : ℕ) → at < 65536 → low_of (insert image at byte) ≡ (if high_of image == 0 then at else min (low_of image) at)
low_of-insert image at byte lt =
    rw (high_of-insert image at byte, lowest-insert image at byte) (low_by at (lowest (entries image)) (high_of image) (high_of image == 0) refl lt (lowest_of_none (entries image)))

none : entries (empty {X = ℕ} {R = nat_cmp}) ≡ []
none = nil_from_length (entries empty) (sym (len-entries empty) ∙ len-empty nat_cmp ℕ)

pub high_of-empty : high_of empty ≡ 0
high_of-empty = ap past_highest none

pub low_of-empty : low_of empty ≡ 0
low_of-empty = rw high_of-empty refl

-- only an equal address ties with an address
pub ties-other : (q k : ℕ) → q ≢ k → eq_by_cmp nat_cmp q k ≡ false
ties-other q k other = by (nat_cmp q k) refl
  where
    by : (r : Ordering) → nat_cmp q k ≡ r → eq_by_cmp nat_cmp q k ≡ false
    by Less e = rw e refl
    by Equal e = absurd (other (nat_cmp-IsAntisymmetric q k e))
    by Greater e = rw e refl

-- a part of a list whose elements a function gives
pub part_by : (f : ℕ → ℕ) (xs : List ℕ) (n low : ℕ) → low + n ≤ length xs → ((k : ℕ) → k < length xs → get_or xs k 0 ≡ f k) → take n (drop low xs) ≡ map f (range_with_len low n)
part_by f xs zero low le each = refl
part_by f xs (suc n) low le each =
    let lt : low < length xs = omega arith in
    let first = each low lt in
    let rest = part_by f xs n (low + 1) (omega arith) each in
    rw (drop_more xs low 0 lt, first, rest) refl

-- an image has one list of bytes
pub bytes_alone : (image : Image) (xs ys : List ℕ) → AreBytesOf image xs → AreBytesOf image ys → xs ≡ ys
bytes_alone image xs ys left right =
    ext_get_or 0 xs ys (left.size ∙ sym right.size)
    (λ k lt. left.each k lt ∙ sym (right.each k (omega (arith, left.size, right.size))))
