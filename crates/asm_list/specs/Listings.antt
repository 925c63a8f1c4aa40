-- The listing of an assembler source with the files that it copies, as the program makes it.
use Rattle.std.specs.Prelude.{◌≡◌, ◌⊎◌, ℕ, List, map, Result, Ok, Err}
use Rattle.asm_defs.specs.Locations.{Line}
use Rattle.shelf_defs.specs.Copied.{Copied, most_bytes}
use Rattle.shelf_defs.specs.Assembly.{layout_copied}
use Rattle.asm_list_defs.specs.Listed.{listing_of}
use Rattle.asm_list_defs.specs.Rows.{listing_rows}
use Rattle.bench_shelf.specs.States.{ShelfState}
use Rattle.bench_shelf.specs.declared.copy_error.CopyError.{CopyError}
use Rattle.bench_shelf.specs.declared.copy_error.CopyError.TheVariants.{Memory}
use Rattle.bench_shelf.specs.Causes.{ShelfCauses, ReadOverLimit, ReadWithinLimit}
use Rattle.bench_shelf.specs.Listed.{RefusedAs, RefusedCauses}
use Rattle.asm_list.specs.declared.listing.AsmListing.{AsmListing}

-- the rows that are written, each by one call
abbrev pub rows_of : AsmListing → List (List ℕ)
rows_of listing = map (λ row. row.items) listing.rows.items

-- The listing of copied lines. Where no line is refused by the first checks, as many files were copied as were asked
-- for.
pub record Lists (asked : ℕ) (listing : AsmListing) (found : Copied) : Type 0 where
  pub rows : rows_of listing ≡ listing_rows (listing_of found)
  pub refused : RefusedAs listing.refused (listing_of found).refusal
  pub copies : (lines : List Line) → layout_copied found ≡ Ok lines → asked ≡ found.copies

-- What the listing says of the shelf. Memory may run out too once a file was found too large.
abbrev pub ListingCauses : Result AsmListing CopyError → ShelfState → ShelfState → Type 0
ListingCauses (Ok listing) before after = RefusedCauses listing.refused before after
ListingCauses (Err Memory) before after =
    ReadWithinLimit most_bytes before after ⊎ ReadOverLimit most_bytes before after
ListingCauses (Err error) before after = ShelfCauses error before after
