use Rattle.link_loader.proofs.Chained as law
use Rattle.link_loader.proofs.laws.chains_are_followed.Goals as goal

pub returns : goal.returns
returns c = law.chains_are_followed
