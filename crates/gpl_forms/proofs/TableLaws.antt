-- What the tables of an image say of it, and what a write does to them.
use Rattle.std.proofs.Common.{◌≡◌, ℕ, zero, suc, ◌+◌, ◌<◌, ◌≤◌, ◌≢◌, ◌⊎◌, inl, inr, ◌++◌, take, drop, Bool, true, false, cond, length, get_or, set, List, []}
use Rattle.std.proofs.Common.{◌∷◌, refl, sym, ap, ◌∙◌, min, max, arith, Option, Some, None}
use Rattle.std.specs.Prelude.{unwrap_or, nat_lt, ◌==◌, if◌then◌else◌, is_some}
use Rattle.std.proofs.lemmas.Bool.Decides.{nat_tests}
use Rattle.std.proofs.lemmas.List.{length-replicate, length-set, get_or-set_same, get_or-set_other, get_or_past}
use Rattle.std.proofs.lemmas.List.Edits.{sets, sets-eq}
use Rattle.std.specs.Prelude.{replicate}
use Rattle.std.proofs.lemmas.Bool.{cases_eq}
use Rattle.std.specs.Ordering.{nat_cmp, eq_by_cmp}
use Rattle.std.specs.Cmp.{nat_cmp_total}
use Rattle.std.proofs.lemmas.Cmp.{eq_by_cmp_equiv}
use Rattle.std.specs.FinMap.{get, insert, empty, same_map, get-insert, get-empty, nat_cmp-IsAntisymmetric}
use Rattle.gpl_defs.specs.Image.{Image, byte_at, low_of, high_of, placed}
use Rattle.gpl_defs.proofs.ImageLaws.{ties-other, high_of-insert, low_of-insert, high_of-empty, low_of-empty}
use Rattle.gpl_forms.specs.Tables.{image_from, image_of, IsImage}

-- the byte at a place of the tables, where it was written
abbrev pub cell_of : List ℕ → List Bool → ℕ → Option ℕ
cell_of bytes marks k = cond (get_or marks k false) (Some (get_or bytes k 0)) None

ties-itself : (q : ℕ) → eq_by_cmp nat_cmp q q ≡ true
ties-itself q = (eq_by_cmp_equiv nat_cmp_total).refl q

get-insert_same : (image : Image) (at byte : ℕ) → get (insert image at byte) at ≡ Some byte
get-insert_same image at byte = get-insert nat_cmp_total image at byte at ∙ rw (ties-itself at) refl

get-insert_other : (image : Image) (at byte q : ℕ) → q ≢ at → get (insert image at byte) q ≡ get image q
get-insert_other image at byte q other = get-insert nat_cmp_total image at byte q ∙ rw (ties-other q at other) refl

-- one place more in front changes nothing elsewhere
get-more : (mark : Bool) (image : Image) (at byte q : ℕ) → q ≢ at → get (cond mark (insert image at byte) image) q ≡ get image q
get-more true image at byte q other = get-insert_other image at byte q other
get-more false image at byte q other = refl

get-image_from_below : (at : ℕ) (bytes : List ℕ) (marks : List Bool) (q : ℕ) → q < at → get (image_from at bytes marks) q ≡ None
unfolding image_from
get-image_from_below at (byte ∷ bytes) (mark ∷ marks) q below =
    let other : q ≢ at = omega arith in
    get-more mark (image_from (at + 1) bytes marks) at byte q other ∙ get-image_from_below (at + 1) bytes marks q (omega arith)
get-image_from_below at _ _ q below = get-empty nat_cmp q

get-front : (mark : Bool) (image : Image) (at byte : ℕ) → get image at ≡ None → get (cond mark (insert image at byte) image) at ≡ cond mark (Some byte) None
get-front true image at byte none = get-insert_same image at byte
get-front false image at byte none = none

unmarked : (bytes : List ℕ) (k : ℕ) → None ≡ cell_of bytes [] k
unmarked bytes k = refl

get-image_from : (at : ℕ) (bytes : List ℕ) (marks : List Bool) (k : ℕ) → length bytes ≡ length marks
    → get (image_from at bytes marks) (at + k) ≡ cell_of bytes marks k
unfolding image_from
get-image_from at [] [] k same = get-empty nat_cmp (at + k)
get-image_from at (byte ∷ bytes) (mark ∷ marks) zero same =
    let here : at + 0 ≡ at = omega arith in
    rw here (get-front mark (image_from (at + 1) bytes marks) at byte (get-image_from_below (at + 1) bytes marks at (omega arith)))
get-image_from at (byte ∷ bytes) (mark ∷ marks) (suc k) same =
    let there : at + suc k ≡ at + 1 + k = omega arith in
    let other : at + 1 + k ≢ at = omega arith in
    let less : length bytes ≡ length marks = omega arith in
    rw there (get-more mark (image_from (at + 1) bytes marks) at byte (at + 1 + k) other ∙ get-image_from (at + 1) bytes marks k less)
get-image_from at _ _ k same = absurd (omega arith)

-- what an image has at an address is what its tables have there
pub get-image_of : (bytes : List ℕ) (marks : List Bool) (k : ℕ) → length bytes ≡ length marks → get (image_of bytes marks) k ≡ cell_of bytes marks k
get-image_of bytes marks k same = let e : 0 + k ≡ k = omega arith in rw e at (get-image_from 0 bytes marks k same)

-- a write to the tables is a write to the image
pub image_of-set : (bytes : List ℕ) (marks : List Bool) (at byte : ℕ) → length bytes ≡ length marks → at < length bytes
    → image_of (set bytes at byte) (set marks at true) ≡ insert (image_of bytes marks) at byte
image_of-set bytes marks at byte same lt = same_map nat_cmp_total nat_cmp-IsAntisymmetric _ _ each
  where
    sizes : length (set bytes at byte) ≡ length (set marks at true)
    sizes = omega (arith, length-set bytes at byte, length-set marks at true)

    at_place : (q : ℕ) → (q ≡ at) ⊎ (q ≢ at) → cell_of (set bytes at byte) (set marks at true) q ≡ get (insert (image_of bytes marks) at byte) q
    at_place q (inl here) =
        let lt_marks : at < length marks = omega arith in
        rw (here, get_or-set_same bytes at byte 0 lt, get_or-set_same marks at true false lt_marks) (sym (get-insert_same (image_of bytes marks) at byte))
    at_place q (inr other) =
        rw (get_or-set_other bytes at q byte 0 other, get_or-set_other marks at q true false other)
        (sym (get-insert_other (image_of bytes marks) at byte q other ∙ get-image_of bytes marks q same))

    each : (q : ℕ) → get (image_of (set bytes at byte) (set marks at true)) q ≡ get (insert (image_of bytes marks) at byte) q
    each q = get-image_of (set bytes at byte) (set marks at true) q sizes ∙ at_place q (cases_eq q at)

-- tables in which nothing is marked are an empty image
pub image_of-none : (bytes : List ℕ) (marks : List Bool) → length bytes ≡ length marks → ((k : ℕ) → get_or marks k false ≡ false) → image_of bytes marks ≡ empty
image_of-none bytes marks same none = same_map nat_cmp_total nat_cmp-IsAntisymmetric _ _ (λ q. get-image_of bytes marks q same
    ∙ rw (none q) (sym (get-empty nat_cmp q)))

byte-cell : (mark : Bool) (byte : ℕ) → (mark ≡ false → byte ≡ 0) → byte ≡ unwrap_or (cond mark (Some byte) None) 0
byte-cell true byte zero_else = refl
byte-cell false byte zero_else = zero_else refl

-- where the places without a mark are 0, the byte of the table is that of the image
pub byte_at-image_of : (bytes : List ℕ) (marks : List Bool) (k : ℕ) → length bytes ≡ length marks
    → ((k : ℕ) → get_or marks k false ≡ false → get_or bytes k 0 ≡ 0) → get_or bytes k 0 ≡ byte_at (image_of bytes marks) k
byte_at-image_of bytes marks k same zero_else =
    byte-cell (get_or marks k false) (get_or bytes k 0) (zero_else k) ∙ sym (ap (λ b. unwrap_or b 0) (get-image_of bytes marks k same))

mark-cell : (mark : Bool) (byte : ℕ) → mark ≡ is_some (cond mark (Some byte) None)
mark-cell true byte = refl
mark-cell false byte = refl

-- an address is marked where the image has a byte
pub mark-image_of : (bytes : List ℕ) (marks : List Bool) (k : ℕ) → length bytes ≡ length marks → get_or marks k false ≡ is_some (get (image_of bytes marks) k)
mark-image_of bytes marks k same =
    mark-cell (get_or marks k false) (get_or bytes k 0) ∙ sym (ap is_some (get-image_of bytes marks k same))

-- a write to the tables and ends keeps what holds of every image
pub IsImage-set : (bytes : List ℕ) (marks : List Bool) (low high at byte next_low : ℕ) → IsImage bytes marks low high → at < 65536
    → next_low ≡ (if high == 0 then at else min low at) → IsImage (set bytes at byte) (set marks at true) next_low (max high (at + 1))
IsImage-set bytes marks low high at byte next_low is lt low_is = record {
  bytes_size = length-set bytes at byte ∙ is.bytes_size;
  marks_size = length-set marks at true ∙ is.marks_size;
  zero_elsewhere = zero_else;
  lowest = low_is ∙ lower ∙ ap low_of (sym wrote);
  highest = higher ∙ ap high_of (sym wrote);
  ordered = rw low_is (ordered_by (high == 0) refl);
  within = omega (arith, is.within);
  begins = rw low_is (begins_by (high == 0));
}
  where
    same : length bytes ≡ length marks
    same = omega (arith, is.bytes_size, is.marks_size)

    wrote : image_of (set bytes at byte) (set marks at true) ≡ insert (image_of bytes marks) at byte
    wrote = image_of-set bytes marks at byte same (omega (arith, is.bytes_size))

    higher : max high (at + 1) ≡ high_of (insert (image_of bytes marks) at byte)
    higher = rw is.highest (sym (high_of-insert (image_of bytes marks) at byte))

    lower : (if high == 0 then at else min low at) ≡ low_of (insert (image_of bytes marks) at byte)
    lower = rw (is.highest, is.lowest) (sym (low_of-insert (image_of bytes marks) at byte lt))

    begins_by : (none : Bool) → (if none then at else min low at) < 65536
    begins_by true = lt
    begins_by false = omega (arith, is.begins)

    ordered_by : (none : Bool) → (high == 0) ≡ none → (if none then at else min low at) ≤ max high (at + 1)
    ordered_by true e = omega arith
    ordered_by false e = omega arith

    zero_at : (k : ℕ) → (k ≡ at) ⊎ (k ≢ at) → get_or (set marks at true) k false ≡ false → get_or (set bytes at byte) k 0 ≡ 0
    zero_at k (inl here) unmarked =
        let lt_marks : at < length marks = omega (arith, is.marks_size) in
        let marked : get_or (set marks at true) k false ≡ true = rw here (get_or-set_same marks at true false lt_marks) in
        cc
    zero_at k (inr other) unmarked =
        get_or-set_other bytes at k byte 0 other ∙ is.zero_elsewhere k (sym (get_or-set_other marks at k true false other) ∙ unmarked)

    zero_else : (k : ℕ) → get_or (set marks at true) k false ≡ false → get_or (set bytes at byte) k 0 ≡ 0
    zero_else k unmarked = zero_at k (cases_eq k at) unmarked

-- what writes from an address on leave of the tables, where that address is neither below the lowest written one nor past the end
IsImage-more : (bs : List ℕ) (bytes : List ℕ) (marks : List Bool) (low high at : ℕ) → IsImage bytes marks low high → 0 < high → low ≤ at → at ≤ high
    → at + length bs ≤ 65536 → IsImage (sets bytes at bs) (sets marks at (replicate (length bs) true)) low (max high (at + length bs))
    × (image_of (sets bytes at bs) (sets marks at (replicate (length bs) true)) ≡ placed (image_of bytes marks) at bs)
IsImage-more [] bytes marks low high at is some above within fits =
    let still : max high (at + 0) ≡ high = omega arith in (rw still is, refl)
IsImage-more (b ∷ bs) bytes marks low high at is some above within fits =
    let same : length bytes ≡ length marks = omega (arith, is.bytes_size, is.marks_size) in
    let lt : at < 65536 = omega arith in
    let lt_bytes : at < length bytes = omega (arith, is.bytes_size) in
    let low_is : low ≡ (if high == 0 then at else min low at) = grind (arith, nat_tests) in
    let next : suc at ≡ at + 1 = omega arith in
    let end : max (max high (at + 1)) (suc at + length bs) ≡ max high (at + suc (length bs)) = omega arith in
    let wrote = image_of-set bytes marks at b same lt_bytes in
    let first = IsImage-set bytes marks low high at b low is lt low_is in
    let rest = IsImage-more bs (set bytes at b) (set marks at true) low (max high (at + 1)) (suc at) first (omega arith) (omega arith) (omega arith)
    (omega arith) in
    (rw (← end) rest.0, rest.1 ∙ ap (λ (m : Image). placed m (suc at) bs) wrote ∙ ap (λ (n : ℕ). placed (insert (image_of bytes marks) at b) n bs) next)

-- one byte or more, written one after the other to the tables and ends, are so written to the image, and keep what holds of every image
pub IsImage-sets : (b : ℕ) (bs : List ℕ) (bytes : List ℕ) (marks : List Bool) (low high at next_low : ℕ) → IsImage bytes marks low high
    → at + suc (length bs) ≤ 65536 → next_low ≡ (if high == 0 then at else min low at)
    → IsImage (sets bytes at (b ∷ bs)) (sets marks at (replicate (suc (length bs)) true)) next_low (max high (at + suc (length bs)))
    × (image_of (sets bytes at (b ∷ bs)) (sets marks at (replicate (suc (length bs)) true)) ≡ placed (image_of bytes marks) at (b ∷ bs))
IsImage-sets b bs bytes marks low high at next_low is fits low_is =
    let same : length bytes ≡ length marks = omega (arith, is.bytes_size, is.marks_size) in
    let lt : at < 65536 = omega arith in
    let lt_bytes : at < length bytes = omega (arith, is.bytes_size) in
    let above : next_low ≤ suc at = grind (arith, nat_tests) in
    let next : suc at ≡ at + 1 = omega arith in
    let end : max (max high (at + 1)) (suc at + length bs) ≡ max high (at + suc (length bs)) = omega arith in
    let wrote = image_of-set bytes marks at b same lt_bytes in
    let first = IsImage-set bytes marks low high at b next_low is lt low_is in
    let rest = IsImage-more bs (set bytes at b) (set marks at true) next_low (max high (at + 1)) (suc at) first (omega arith) above (omega arith)
    (omega arith) in
    (rw (← end) rest.0, rest.1 ∙ ap (λ (m : Image). placed m (suc at) bs) wrote ∙ ap (λ (n : ℕ). placed (insert (image_of bytes marks) at b) n bs) next)

-- one byte or more over the bytes of the table from an address on, and as many marks, are writes to the image one after the other
pub IsImage-written : (bs bytes next_bytes : List ℕ) (marks next_marks : List Bool) (low high at next_low : ℕ) → IsImage bytes marks low high → 0 < length bs
    → at + length bs ≤ 65536 → next_low ≡ (if high == 0 then at else min low at) → next_bytes ≡ take at bytes ++ bs ++ drop (at + length bs) bytes
    → next_marks ≡ take at marks ++ replicate (length bs) true ++ drop (at + length bs) marks
    → IsImage next_bytes next_marks next_low (max high (at + length bs)) × (image_of next_bytes next_marks ≡ placed (image_of bytes marks) at bs)
IsImage-written [] bytes next_bytes marks next_marks low high at next_low is some fits low_is bytes_are marks_are = absurd (omega arith)
IsImage-written (b ∷ bs) bytes next_bytes marks next_marks low high at next_low is some fits low_is bytes_are marks_are =
    let count : length (replicate (suc (length bs)) true) ≡ suc (length bs) = length-replicate (suc (length bs)) true in
    let as_bytes : next_bytes ≡ sets bytes at (b ∷ bs) = bytes_are ∙ sym (sets-eq (b ∷ bs) bytes at (omega (arith, is.bytes_size))) in
    let marks_eq = sets-eq (replicate (suc (length bs)) true) marks at (omega (arith, count, is.marks_size)) in
    let as_marks : next_marks ≡ sets marks at (replicate (suc (length bs)) true) =
    marks_are ∙ ap (λ n. take at marks ++ replicate (suc (length bs)) true ++ drop (at + n) marks) (sym count) ∙ sym marks_eq in
    let wrote = IsImage-sets b bs bytes marks low high at next_low is fits low_is in
    rw (as_bytes, as_marks) wrote

all_within : {A : Type 0} (xs : List A) (d : A) → ((k : ℕ) → k < length xs → get_or xs k d ≡ d) → (k : ℕ) → get_or xs k d ≡ d
all_within xs d each k = by (nat_lt k (length xs)) refl
  where
    by : (b : Bool) → nat_lt k (length xs) ≡ b → get_or xs k d ≡ d
    by true e = each k (grind (arith, nat_tests))
    by false e = get_or_past xs k d (grind (arith, nat_tests))

-- tables of zeros without a mark are a new image
pub IsImage-none : (bytes : List ℕ) (marks : List Bool) → length bytes ≡ 65536 → length marks ≡ 65536 → ((k : ℕ) → k < length bytes → get_or bytes k 0 ≡ 0)
    → ((k : ℕ) → k < length marks → get_or marks k false ≡ false) → IsImage bytes marks 0 0 × (image_of bytes marks ≡ empty)
IsImage-none bytes marks bytes_size marks_size zeros none = (
  record {
    bytes_size = bytes_size;
    marks_size = marks_size;
    zero_elsewhere = λ k unmarked. all_within bytes 0 zeros k;
    lowest = sym (ap low_of nothing ∙ low_of-empty);
    highest = sym (ap high_of nothing ∙ high_of-empty);
    ordered = omega arith;
    within = omega arith;
    begins = omega arith;
  },
  nothing,
)
  where
    nothing : image_of bytes marks ≡ empty
    nothing = image_of-none bytes marks (bytes_size ∙ sym marks_size) (all_within marks false none)
