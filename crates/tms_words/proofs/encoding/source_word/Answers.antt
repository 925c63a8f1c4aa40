use Rattle.std.proofs.Common.{rules}
use Rattle.tms_words.proofs.encoding.source_word.Goals as goal

pub returns : goal.returns
returns c = search rules
