use Rattle.gpl_listing_defs.proofs.ListingLaw as law
use Rattle.gpl_disasm.proofs.laws.listings_come_back.Goals as goal

pub returns : goal.returns
returns c = law.listings_come_back
