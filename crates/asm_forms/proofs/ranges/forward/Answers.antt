use Rattle.std.proofs.Common.{rules}
use Rattle.asm_forms.proofs.ranges.forward.Goals as goal

pub returns-else-bytes-eq0 : goal.returns-else-bytes-eq0
returns-else-bytes-eq0 c = search rules
