use Rattle.std.proofs.Common.{arith}
use Rattle.tms_defs.proofs.OverflowLaws.{sum_overflows_by_signs}
use Rattle.tms_words.proofs.bytes.add8.Goals as goal

pub returns-clause-flags : goal.returns-clause-flags
returns-clause-flags c = grind (arith, sum_overflows_by_signs)
