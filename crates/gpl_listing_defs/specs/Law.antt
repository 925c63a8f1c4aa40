-- What is listed is assembled again.
use Rattle.std.specs.Prelude.{◌≡◌, ℕ, ◌+◌, ◌-◌, ◌*◌, ◌<◌, ◌≤◌, List, length, slice_range, None, Ok}
use Rattle.std.specs.List.{concat}
use Rattle.std.specs.FinMap.{empty}
use Rattle.tms_defs.specs.Bytes.{HoldsBytes}
use Rattle.expression_defs.specs.Symbols.{predefined}
use Rattle.gpl_defs.specs.Image.{placed}
use Rattle.gpl_source_defs.specs.Programs.{program_of_source}
use Rattle.gpl_listing_defs.specs.Listing.{grom_listing}

-- The law, which is proved: the listing of the bytes from an address up to another is a source without refusal, and its
-- image has these bytes at their addresses and no others.
abbrev pub ListingsComeBack : Type 0
ListingsComeBack =
    (image : List ℕ) (low high : ℕ) → HoldsBytes 65536 image → low < 65536 → low ≤ high → high ≤ 65536 →
    program_of_source (concat (grom_listing image low high))
    ≡ Ok (record { image = placed empty low (slice_range image low high); entry = None; names = predefined })

-- The law, which is proved: a listing has at most 16 bytes for each byte that it lists, and 299 more. So has one of
-- BYTE alone over all eight GROMs.
abbrev pub ListingsAreShort : Type 0
ListingsAreShort =
    (image : List ℕ) (low high : ℕ) → HoldsBytes 65536 image → low ≤ high → high ≤ 65536 →
    length (concat (grom_listing image low high)) ≤ 16 * (high - low) + 299
