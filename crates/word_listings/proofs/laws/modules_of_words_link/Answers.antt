use Rattle.word_listings.proofs.LinkLaw as law
use Rattle.word_listings.proofs.laws.modules_of_words_link.Goals as goal

pub returns : goal.returns
returns c = law.modules_of_words_link
