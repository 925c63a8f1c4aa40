use Rattle.std.proofs.Common.{arith}
use Rattle.tms_defs.proofs.OverflowLaws.{difference_overflows_by_signs}
use Rattle.tms_words.proofs.words.sub16.Goals as goal

pub returns-clause-flags : goal.returns-clause-flags
returns-clause-flags c = grind (arith, difference_overflows_by_signs)
