use Rattle.std.proofs.Common.{◌≡◌, length}
use Rattle.asm_defs.specs.SecondChecks.{checked_bytes}
use Rattle.source_defs.specs.Refusals.{prepended}
use Rattle.asm_checks.proofs.values.Scope.bytes_of.Given as goal

-- the bytes so far, and of the numbers that are left
abbrev pub invariant-loop-rest : goal.invariant-loop-rest
invariant-loop-rest l = prepended l.bytes.items (checked_bytes l.rest) ≡ checked_bytes l.numbers

abbrev pub decreases-loop-rest : goal.decreases-loop-rest
decreases-loop-rest l = length l.rest
