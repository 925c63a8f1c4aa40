-- What the last uses become after one more.
use Rattle.std.proofs.Common.{◌≡◌, ℕ, zero, suc, ◌<◌, true, List, [], ◌∷◌, ◌++◌, length, get_or, set, take, drop, sym, subst, ap, arith}
use Rattle.std.specs.Prelude.{map}
use Rattle.object_defs.specs.declared.spot.Spot.{Spot}
use Rattle.object_tags.specs.declared.parts.Ref.{Ref}
use Rattle.object_tags.specs.Seen.{model_of_ref}
use Rattle.asm_defs.specs.Memory.{with_use}
use Rattle.source_defs.specs.Names.{same_text}

pub used_at : (references : List Ref) (index : ℕ) (name : List ℕ) (at : Spot) (seen found : Ref) → index < length references
    → seen ≡ get_or references index seen → found ≡ get_or references index found → same_text seen.name name ≡ true
    → map model_of_ref (take index references) ++ with_use (map model_of_ref (drop index references)) name at
    ≡ map model_of_ref (set references index (record { name = found.name; last = at }))
used_at [] index name at seen found lt is was same = absurd (omega (arith, lt))
used_at (first ∷ others) zero name at seen found lt is was same =
    let here : same_text first.name name ≡ true = subst (λ (reference : Ref). same_text reference.name name ≡ true) is same in
    let kept : first.name ≡ found.name = ap (λ (reference : Ref). reference.name) (sym was) in
    rw here (ap (λ kept. record { name = kept; last = at } ∷ map model_of_ref others) kept)
used_at (first ∷ others) (suc index) name at seen found lt is was same =
    ap (λ rest. model_of_ref first ∷ rest) (used_at others index name at seen found (omega (arith, lt)) is was same)
