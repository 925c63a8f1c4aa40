use Rattle.std.proofs.Common.{◌≡◌}
use Rattle.asm_list.specs.declared.listing.AsmListing.{AsmListing}
use Rattle.asm_list.specs.Adding.{all_rows}
use Rattle.asm_list.specs.Listings.{rows_of}
use Rattle.asm_list.proofs.ListingLaws.{listing_answered}
use Rattle.asm_list.proofs.listing.list_source.Goals as goal

pub returns-in-Ok-all_rows-clause-answered : goal.returns-in-Ok-all_rows-clause-answered
returns-in-Ok-all_rows-clause-answered g c =
    let listed = c.in-Ok.listed in
    let listing : AsmListing = record { rows = c.in-Ok-all_rows.rows; refused = c.refused_by.result } in
    let rows : rows_of listing ≡ all_rows listed.lines.items listed.ending = rw c.as_slice.ensures.value at c.in-Ok-all_rows.ensures in
    listing_answered listed listing rows c.refused_by.ensures _ _ c.args.source.now c.in-Ok.ensures.answered
