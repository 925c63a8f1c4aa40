-- One memory is linked of a source.
use Rattle.std.proofs.Common.{◌≡◌, ℕ, List, [], ◌∷◌, Ok, sym, ap, ◌∙◌}
use Rattle.object_defs.specs.Modules.{Module}
use Rattle.asm_defs.specs.Modules.{module_of_source}
use Rattle.link_defs.specs.LinkedMemory.{LinkedMemory, linked}
use Rattle.interp_build_defs.specs.Building.{Links}

-- the module of a source gives the memory of the source
pub module_linked : (text : List ℕ) (unit : Module) (memory : LinkedMemory) → Links text memory → module_of_source text ≡ Ok unit
    → linked (unit ∷ []) ≡ Ok memory
module_linked text unit memory links is =
    let units : Ok links.unit ≡ Ok unit = sym links.assembled ∙ is in
    let same : links.unit ≡ unit = cc in
    ap (λ (m : Module). linked (m ∷ [])) (sym same) ∙ links.linked

pub one_memory_links : (text : List ℕ) (a b : LinkedMemory) → Links text a → Links text b → a ≡ b
one_memory_links text a b p q =
    let memories : Ok a ≡ Ok b = sym (module_linked text q.unit a p q.assembled) ∙ q.linked in
    cc
