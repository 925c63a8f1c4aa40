-- A jump from an even address leads to an even one.
use Rattle.std.proofs.Common.{◌≡◌, ℕ, arith, ℤ, pos, negsuc}
use Rattle.std.specs.Prelude.{FitsSigned}
use Rattle.std.specs.Int.{w8}
use Rattle.std.proofs.lemmas.Int.{ints}
use Rattle.tms_defs.specs.Words.{even}
use Rattle.tms_defs.specs.Jumps.{jump_target}

pub even_target : (pc : ℕ) (disp : ℤ) → even pc ≡ pc → FitsSigned w8 disp → even (jump_target pc disp)
    ≡ jump_target pc disp
even_target pc (pos n) is fits = grind (arith, ints)
even_target pc (negsuc n) is fits = grind (arith, ints)
