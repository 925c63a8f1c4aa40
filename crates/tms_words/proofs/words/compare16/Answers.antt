use Rattle.std.proofs.Common.{rules}
use Rattle.tms_words.proofs.words.compare16.Goals as goal

pub returns : goal.returns
returns c = search rules
