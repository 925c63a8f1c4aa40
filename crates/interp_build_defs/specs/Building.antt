-- The linked memory of a source, and words that are shipped.
use Rattle.std.specs.Prelude.{◌≡◌, ℕ, ◌-◌, ◌/◌, ◌==◌, ◌%◌, ◌&&◌, nat_le, if◌then◌else◌, List, [], ◌∷◌, Option, None, Ok}
use Rattle.std.specs.List.{slice_get}
use Rattle.std.specs.FinMap.{get}
use Rattle.object_defs.specs.Modules.{Module}
use Rattle.asm_defs.specs.Modules.{module_of_source}
use Rattle.link_defs.specs.LinkedMemory.{LinkedMemory, linked}
use Rattle.native_interp.specs.Words.{origin}

-- A source has a module, and linked alone the module gives this memory.
pub record Links (source : List ℕ) (memory : LinkedMemory) : Type 0 where
  pub unit : Module
  pub assembled : module_of_source source ≡ Ok unit
  pub linked : linked (unit ∷ []) ≡ Ok memory

-- the word that is shipped at an address, of words that come one after the other
abbrev pub shipped_at : List ℕ → ℕ → Option ℕ
shipped_at shipped address =
    if nat_le origin address && (address % 2 == 0) then slice_get shipped ((address - origin) / 2) else None

-- linked memory has the words that are shipped, and no others
abbrev pub HasShipped : List ℕ → LinkedMemory → Type 0
HasShipped shipped memory = (at : ℕ) → get memory.words at ≡ shipped_at shipped at
