-- The placed words among some.
use Rattle.std.proofs.Common.{◌≡◌, ℕ, zero, suc, ◌+◌, ◌*◌, [], ◌++◌, refl, ap}
use Rattle.std.specs.Prelude.{Option}
use Rattle.asm_defs.specs.declared.content.Content.{Content}
use Rattle.asm_defs.specs.declared.location.Part.{Part}
use Rattle.asm_defs.specs.Memory.{pieces_at, pieces_from}

pub pieces_step : (content : ℕ → Option Content) (part : Part) (first n m : ℕ) → n ≡ suc m
    → pieces_from content part first n ≡ pieces_at content part first ++ pieces_from content part (first + 1) m
pieces_step content part first n m e = ap (pieces_from content part first) e

pub pieces_end : (content : ℕ → Option Content) (part : Part) (first n : ℕ) → n ≡ 0 → pieces_from content part first n ≡ []
pieces_end content part first n e = ap (pieces_from content part first) e

pub pieces_same : (f g : ℕ → Option Content) (part : Part) (first n : ℕ) → ((p : ℕ) → f p ≡ g p) → pieces_from f part first n ≡ pieces_from g part first n
pieces_same f g part first zero same = refl
pieces_same f g part first (suc n) same =
    rw (same (2 * first), same (2 * first + 1), pieces_same f g part (first + 1) n same) refl
