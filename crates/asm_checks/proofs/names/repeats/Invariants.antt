use Rattle.std.proofs.Common.{◌≡◌, length}
use Rattle.asm_defs.specs.FirstChecks.{repeats}
use Rattle.asm_checks.proofs.names.repeats.Given as goal

abbrev pub invariant-loop-rest : goal.invariant-loop-rest
invariant-loop-rest l = repeats l.earlier l.rest ≡ repeats l.earlier l.names

abbrev pub decreases-loop-rest : goal.decreases-loop-rest
decreases-loop-rest l = length l.rest
