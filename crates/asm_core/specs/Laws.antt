-- What holds of the module of every source.
use Rattle.std.specs.Prelude.{◌≡◌, ℕ, List, Ok}
use Rattle.object_defs.specs.Modules.{Module, HasText}
use Rattle.asm_defs.specs.Modules.{module_of_source}

-- the law, which is proved: it can be written as object text
abbrev pub ModulesHaveTexts : Type 0
ModulesHaveTexts = (source : List ℕ) (m : Module) → module_of_source source ≡ Ok m → HasText m
