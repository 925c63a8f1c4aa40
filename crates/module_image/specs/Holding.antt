-- A table that holds what lines place.
use Rattle.std.specs.Prelude.{◌≡◌, ℕ, List}
use Rattle.object_defs.specs.Modules.{Reference}
use Rattle.asm_defs.specs.declared.location.Part.{Part}
use Rattle.asm_defs.specs.Memory.{AssembledLine, content_at}
use Rattle.module_image.specs.Tables.{cell}
use Rattle.module_image.specs.declared.memory.Table.{Table}

-- the cells of a part hold what the lines place there
abbrev pub Holds : List Reference → List AssembledLine → Part → Table → Type 0
Holds references lines part table = (p : ℕ) → cell table.cells.items p ≡ content_at references lines part p
