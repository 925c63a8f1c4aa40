use Rattle.std.proofs.Common.{rules}
use Rattle.tms_words.proofs.decoding.imm_at.Goals as goal

pub returns-in-32-clause-found : goal.returns-in-32-clause-found
returns-in-32-clause-found c = search rules
