use Rattle.source_defs.proofs.LeastLaws.{least_places_are_least}
use Rattle.asm_text.proofs.laws.least_places.Goals as goal

pub returns : goal.returns
returns c = least_places_are_least
