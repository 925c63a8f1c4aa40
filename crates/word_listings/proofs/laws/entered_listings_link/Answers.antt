use Rattle.word_listings.proofs.LinkLaw as law
use Rattle.word_listings.proofs.laws.entered_listings_link.Goals as goal

pub returns : goal.returns
returns c = law.entered_listings_link
