-- What stays as it was through several calls.
use Rattle.std.proofs.Common.{ℕ, arith}
use Rattle.bench_shelf.specs.States.{ShelfState}
use Rattle.bench_shelf.specs.Causes.{ReadWithinLimit}

pub within_then : (limit : ℕ) (a b c : ShelfState) → ReadWithinLimit limit a b → ReadWithinLimit limit b c → ReadWithinLimit limit a c
within_then limit a b c first then = omega (arith, first, then)
