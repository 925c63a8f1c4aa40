-- Small laws of tests and of lists.
use Rattle.std.proofs.Common.{◌≡◌, Bool, List, [], ◌∷◌, ◌++◌, ap}
pub use Rattle.std.proofs.lemmas.Bool.{and_parts as both}
pub use Rattle.std.proofs.lemmas.List.{map-append as append_map}
pub use Rattle.std.proofs.lemmas.Option.{slice_get_past as get_past}
use Rattle.std.specs.Prelude.{if◌then◌else◌}

-- a choice by a test that is known
pub chosen : {A : Type 0} (d b : Bool) (this that : A) → d ≡ b → (if d then this else that) ≡ (if b then this else that)
chosen d b this that e = ap (λ c. if c then this else that) e

pub append_none : {A : Type 0} (items more : List A) → more ≡ [] → items ++ more ≡ items
append_none [] more e = e
append_none (item ∷ items) more e = ap (λ items. item ∷ items) (append_none items more e)
