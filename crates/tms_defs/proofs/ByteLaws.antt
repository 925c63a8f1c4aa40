-- Laws about lists of bytes.
use Rattle.std.proofs.Common.{ℕ, replicate, arith}
use Rattle.std.proofs.lemmas.Grind.{common_steps}
use Rattle.tms_defs.specs.Bytes.{HoldsZeros}

-- So many zeros are a list of zeros.
pub replicated_zeros : (count : ℕ) → HoldsZeros count (replicate count 0)
replicated_zeros count =
    record { size = Prim.grind (arith, common_steps); zeros = λ at. Prim.grind (arith, common_steps) }
