use Rattle.std.proofs.Common.{arith}
use Rattle.tms_defs.proofs.DivideLaws.{quotient_is_word}
use Rattle.tms_words.proofs.multiply.div16.Goals as goal

pub returns-clause-value : goal.returns-clause-value
returns-clause-value c = grind (arith, quotient_is_word)
