use Rattle.std.proofs.Common.{length}
use Rattle.asm_core.proofs.define.+define_refs.Given as goal

abbrev pub decreases-define_refs : goal.decreases-define_refs
decreases-define_refs l = length l.refs.now
