use Rattle.gpl_defs.proofs.MeaningLaws.{one_meaning}
use Rattle.gpl_forms.proofs.laws.bytes_mean_one_instruction.Goals as goal

pub returns : goal.returns
returns c = one_meaning
