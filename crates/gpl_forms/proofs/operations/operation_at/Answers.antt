use Rattle.std.proofs.Common.{◌∙◌, refl}
use Rattle.gpl_forms.proofs.operations.operation_at.Goals as goal

pub returns : goal.returns
returns c = c.operation_in.ensures ∙ refl
