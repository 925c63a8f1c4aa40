-- Answers of lists, one item after the other.
use Rattle.std.proofs.Common.{◌≡◌, List, [], ◌∷◌, ◌++◌, Ok, Err, refl, sym, ap, append_assoc}
use Rattle.std.specs.Prelude.{Result}
use Rattle.source_defs.specs.Refusals.{◌>>=◌, prepended}

pub after_more : {A C : Type 0} (front : List A) (item : A) (others : Result (List A) C)
    → prepended front (others >>= λ items. Ok (item ∷ items)) ≡ prepended (front ++ item ∷ []) others
after_more front item (Ok items) = ap Ok (sym (append_assoc front (item ∷ []) items))
after_more front item (Err cause) = refl

-- what a value came from
pub bound : {A B C : Type 0} (answer : Result A C) (make : A → Result B C) (found : B) → (answer >>= make) ≡ Ok found
    → (value : A) × (answer ≡ Ok value) × (make value ≡ Ok found)
bound (Ok value) make found e = (value, refl, e)
bound (Err cause) make found e = cc e
