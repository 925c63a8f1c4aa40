use Rattle.link_loader.proofs.Placed as law
use Rattle.link_loader.proofs.laws.placed_words_are_held.Goals as goal

pub returns : goal.returns
returns c = law.placed_words_are_held
