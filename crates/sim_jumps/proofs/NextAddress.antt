-- The address of the next byte is found, and GROM is set to an address again: on views alone.
use Rattle.std.proofs.Common.{ℕ, ◌<◌, ◌∙◌, ◌≡◌, ap, arith, List, refl}
use Rattle.sim_rows.proofs.Common.{back_is, grom_at, GromState, lost, next_in_grom, set_is, with_grom_address}
use Rattle.sim_rows.specs.Pieces.{address_before}

-- an address is within GROM where the counter after it is
pub next_fits : (at : ℕ) → next_in_grom at < 65536 → at < 65536
next_fits at h = omega arith

pub later_fits : (at : ℕ) → at < 65536 → next_in_grom at < 65536
later_fits at h = omega arith

-- WHERE, and SEEK by a word that may be of the address found, whatever is made of the address and of GROM
pub seeks : {X : Type 0} (image : List ℕ) (at : ℕ) (word : ℕ → ℕ) (made : ℕ → GromState → X) → at < 65536 →
    word at < 65536 →
    (let found = address_before (next_in_grom at) in made found (with_grom_address (word found) (lost image at)))
    ≡ made at (grom_at image (word at))
seeks image at word made fits near =
    ap (λ (n : ℕ). made n (with_grom_address (word n) (lost image at))) (back_is at fits)
    ∙ ap (made at) (set_is (lost image at) (word at) refl near)
