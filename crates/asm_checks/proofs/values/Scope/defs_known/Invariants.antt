use Rattle.std.proofs.Common.{◌≡◌, length}
use Rattle.expression_defs.specs.Symbols.{look_up}
use Rattle.asm_defs.specs.SecondChecks.{defs_known}
use Rattle.asm_checks.proofs.values.Scope.defs_known.Given as goal

abbrev pub invariant-loop-rest : goal.invariant-loop-rest
invariant-loop-rest l =
    defs_known (look_up l.self.symbols.now) l.self.at l.rest ≡ defs_known (look_up l.self.symbols.now) l.self.at l.names

abbrev pub decreases-loop-rest : goal.decreases-loop-rest
decreases-loop-rest l = length l.rest
