-- A name with one more blank.
use Rattle.std.proofs.Common.{◌≡◌, ℕ, suc, ◌-◌, ◌<◌, List, [], ◌∷◌, ◌++◌, length, arith, length-append, append_assoc}
use Rattle.std.specs.Prelude.{replicate}
use Rattle.object_defs.specs.Digits.{padded}

same_blanks : (bytes : List ℕ) (k j : ℕ) → k ≡ suc j → (bytes ++ 0x20 ∷ []) ++ replicate j 0x20 ≡ bytes ++ replicate k 0x20
same_blanks bytes k j e = rw e (append_assoc bytes (0x20 ∷ []) (replicate j 0x20))

pub padded_more : (bytes : List ℕ) → length bytes < 8 → padded 8 (bytes ++ 0x20 ∷ []) ≡ padded 8 bytes
padded_more bytes lt =
    same_blanks bytes (8 - length bytes) (8 - length (bytes ++ 0x20 ∷ [])) (omega (arith, length-append bytes (0x20 ∷ [])))
