-- What gdis lists of an input is assembled to the input.
use Rattle.std.proofs.Common.{◌≡◌, ◌≢◌, ℕ, zero, suc, ◌+◌, ◌-◌, ◌<◌, ◌≤◌, Bool, true, false, List, [], ◌∷◌, length, take, drop, get_or, Some, refl, ap}
use Rattle.std.proofs.Common.{◌∙◌, max, min, arith}
use Rattle.std.specs.Prelude.{map, unwrap_or, ◌==◌, if◌then◌else◌, nat_lt, None, Ok}
use Rattle.std.specs.List.{range_with_len}
use Rattle.std.specs.Ordering.{nat_cmp, eq_by_cmp}
use Rattle.std.specs.Cmp.{nat_cmp_total}
use Rattle.std.specs.FinMap.{empty, get, insert, get-insert, get-empty}
use Rattle.std.proofs.lemmas.Cmp.{eq_by_cmp_equiv}
use Rattle.std.proofs.lemmas.Bool.Decides.{nat_tests}
use Rattle.std.proofs.lemmas.List.{get_or_past}
use Rattle.tms_defs.specs.Bytes.{HoldsBytes}
use Rattle.expression_defs.specs.Symbols.{predefined}
use Rattle.gpl_defs.specs.Image.{Image, byte_at, low_of, high_of, placed}
use Rattle.gpl_defs.proofs.ImageLaws.{high_of-insert, low_of-insert, high_of-empty, low_of-empty, ties-other, part_by}
use Rattle.gpl_source_defs.specs.Programs.{program_of_source}
use Rattle.gpl_listing_defs.proofs.ListingLaw.{listings_come_back}
use Rattle.report_defs.specs.GromListing.{grom_bytes}
use Rattle.report_defs.specs.Laws.{ListedInputsComeBack, listed_text}
use Rattle.report_defs.proofs.GromBytes.{bytes_of_image}

-- The ends of bytes that are placed one after the other.

high_placed : (bytes : List ℕ) (image : Image) (at byte : ℕ) → high_of (placed (insert image at byte) (at + 1) bytes) ≡ max (high_of image) (at + 1 + length bytes)
high_placed [] image at byte = high_of-insert image at byte ∙ ap (max (high_of image)) (omega arith)
high_placed (next ∷ bytes) image at byte =
    high_placed bytes (insert image at byte) (at + 1) next ∙ omega (arith, high_of-insert image at byte)

low_by : (high low at : ℕ) → 0 < high → low ≤ at → (if high == 0 then at else min low at) ≡ low
low_by high low at some below = grind (arith, nat_tests)

low_kept : (bytes : List ℕ) (image : Image) (at : ℕ) → at + length bytes ≤ 65536 → 0 < high_of image → low_of image ≤ at → low_of (placed image at bytes) ≡ low_of image
low_kept [] image at within some below = refl
low_kept (byte ∷ bytes) image at within some below =
    let low : low_of (insert image at byte) ≡ low_of image =
    low_of-insert image at byte (omega arith) ∙ low_by (high_of image) (low_of image) at some below in
    low_kept bytes (insert image at byte) (at + 1) (omega arith) (omega (arith, high_of-insert image at byte)) (omega (arith, low)) ∙ low

low_first : (at byte : ℕ) → at < 65536 → low_of (insert empty at byte) ≡ at
low_first at byte lt = low_of-insert empty at byte lt ∙ rw high_of-empty refl

pub low_placed : (byte : ℕ) (bytes : List ℕ) (at : ℕ) → at + length (byte ∷ bytes) ≤ 65536 → low_of (placed empty at (byte ∷ bytes)) ≡ at
low_placed byte bytes at within =
    let first = low_first at byte (omega arith) in
    low_kept bytes (insert empty at byte) (at + 1) (omega arith) (omega (arith, high_of-insert empty at byte)) (omega (arith, first)) ∙ first

pub high_all : (byte : ℕ) (bytes : List ℕ) (at : ℕ) → high_of (placed empty at (byte ∷ bytes)) ≡ at + length (byte ∷ bytes)
high_all byte bytes at = high_placed bytes empty at byte ∙ omega (arith, high_of-empty)

-- The bytes themselves.

insert_other : (image : Image) (at byte k : ℕ) → k ≢ at → byte_at (insert image at byte) k ≡ byte_at image k
insert_other image at byte k other =
    let found : get (insert image at byte) k ≡ get image k =
    get-insert nat_cmp_total image at byte k ∙ rw (ties-other k at other) refl in
    ap (λ found. unwrap_or found 0) found

byte_before : (bytes : List ℕ) (image : Image) (at k : ℕ) → k < at → byte_at (placed image at bytes) k ≡ byte_at image k
byte_before [] image at k lt = refl
byte_before (byte ∷ bytes) image at k lt =
    byte_before bytes (insert image at byte) (at + 1) k (omega arith) ∙ insert_other image at byte k (omega arith)

ties_self : (k : ℕ) → eq_by_cmp nat_cmp k k ≡ true
ties_self k = (eq_by_cmp_equiv nat_cmp_total).refl k

byte_here : (image : Image) (at byte : ℕ) → byte_at (insert image at byte) at ≡ byte
byte_here image at byte =
    let found : get (insert image at byte) at ≡ Some byte =
    get-insert nat_cmp_total image at byte at ∙ rw (ties_self at) refl in
    ap (λ found. unwrap_or found 0) found

pub bytes_placed : (bytes : List ℕ) (image : Image) (at : ℕ) → map (byte_at (placed image at bytes)) (range_with_len at (length bytes)) ≡ bytes
bytes_placed [] image at = refl
bytes_placed (byte ∷ bytes) image at =
    let first = byte_before bytes (insert image at byte) (at + 1) at (omega arith) ∙ byte_here image at byte in
    rw (first, bytes_placed bytes (insert image at byte) (at + 1)) refl

-- the bytes from the lowest address to the highest are those that were placed
between : (input : List ℕ) (at : ℕ) → at + length input ≤ 65536 → take (length input) (drop at (grom_bytes (placed empty at input))) ≡ input
between input at within =
    let image = placed empty at input in
    let bytes = bytes_of_image image in
    part_by (byte_at image) (grom_bytes image) (length input) at (omega (arith, bytes.size)) bytes.each ∙ bytes_placed input empty at

-- They are below 256.

insert_fits : (image : Image) (at byte : ℕ) → byte < 256 → ((k : ℕ) → byte_at image k < 256) → (k : ℕ) → byte_at (insert image at byte) k < 256
insert_fits image at byte lt fits k = rw (get-insert nat_cmp_total image at byte k) (by (eq_by_cmp nat_cmp k at))
  where
    by : (same : Bool) → unwrap_or (if same then Some byte else get image k) 0 < 256
    by true = lt
    by false = fits k

pub placed_fit : (bytes : List ℕ) (image : Image) (at : ℕ) → ((k : ℕ) → get_or bytes k 0 < 256) → ((k : ℕ) → byte_at image k < 256) → (k : ℕ) → byte_at (placed image at bytes) k < 256
placed_fit [] image at each fits = fits
placed_fit (byte ∷ bytes) image at each fits =
    placed_fit bytes (insert image at byte) (at + 1) (λ k. each (suc k)) (insert_fits image at byte (each zero) fits)

pub empty_fits : (k : ℕ) → byte_at empty k < 256
empty_fits k = rw (get-empty nat_cmp k) (omega arith)

pub all_fit : (image : Image) → ((k : ℕ) → byte_at image k < 256) → HoldsBytes 65536 (grom_bytes image)
all_fit image fits =
    let bytes = bytes_of_image image in record { size = bytes.size; fits = λ k. by k (nat_lt k 65536) refl }
  where
    by : (k : ℕ) (below : Bool) → nat_lt k 65536 ≡ below → get_or (grom_bytes image) k 0 < 256
    by k true is =
        let bytes = bytes_of_image image in
        let lt : k < 65536 = grind (arith, nat_tests) in
        rw (bytes.each k (omega (arith, bytes.size))) (fits k)
    by k false is =
        let bytes = bytes_of_image image in
        let le : 65536 ≤ k = grind (arith, nat_tests) in
        rw (get_or_past (grom_bytes image) k 0 (omega (arith, bytes.size))) (omega arith)

-- the law at the addresses that the listing has
at_addresses : (input : List ℕ) (at low high : ℕ) → HoldsBytes 65536 (grom_bytes (placed empty at input)) → low_of (placed empty at input) ≡ low → high_of (placed empty at input) ≡ high → low < 65536 → low ≤ high → high ≤ 65536 → placed empty low (take (high - low) (drop low (grom_bytes (placed empty at input)))) ≡ placed empty at input → program_of_source (listed_text at input) ≡ Ok (record { image = placed empty at input; entry = None; names = predefined })
at_addresses input at low high bytes is_low is_high below order within same =
    rw (is_low, is_high) (listings_come_back (grom_bytes (placed empty at input)) low high bytes below order within ∙ rw same refl)

pub listed_inputs_come_back : ListedInputsComeBack
listed_inputs_come_back at [] holds below within =
    at_addresses [] at 0 0 (all_fit empty empty_fits) low_of-empty high_of-empty (omega arith) (omega arith) (omega arith) refl
listed_inputs_come_back at (byte ∷ bytes) holds below within =
    let input = byte ∷ bytes in
    let size : at + length input - at ≡ length input = omega arith in
    let taken : take (at + length input - at) (drop at (grom_bytes (placed empty at input))) ≡ input =
    rw size (between input at within) in
    at_addresses input at at (at + length input) (all_fit (placed empty at input) (placed_fit input empty at holds.fits empty_fits)) (low_placed byte bytes at within) (high_all byte bytes at) below (omega arith) within (ap (λ taken. placed empty at taken) taken)
