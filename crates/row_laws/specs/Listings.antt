-- What the listing of an accepted assembler source has: a row for each line, and each name of its module.
use Rattle.std.specs.Prelude.{◌≡◌, ◌⊎◌, ℕ, List, [], ◌∷◌, length, Some, None, Ok}
use Rattle.std.specs.List.{AllByRecursion}
use Rattle.expression_defs.specs.Expression.{Value, External}
use Rattle.expression_defs.specs.Symbols.{predefined, look_up}
use Rattle.object_defs.specs.Modules.{Module, Definition, Reference}
use Rattle.asm_defs.specs.Locations.{Line}
use Rattle.asm_defs.specs.Modules.{spot_of}
use Rattle.shelf_defs.specs.Files.{Contents}
use Rattle.shelf_defs.specs.Copied.{copied_by}
use Rattle.shelf_defs.specs.Assembly.{module_by, layout_copied}
use Rattle.asm_list_defs.specs.Listed.{ListedName, Listing, listing}

-- a name is listed with a value
abbrev pub Lists : List ListedName → List ℕ → Value → Type 0
Lists [] name value = ⊥
Lists (row ∷ rows) name value = ((row.name ≡ name) × (row.value ≡ Some value)) ⊎ Lists rows name value

abbrev pub HasValue : ListedName → Type 0
HasValue row = (value : Value) × (row.value ≡ Some value)

-- A DEF of a module. Profile: DEF may name R0 to R15, which stand for 0 to 15 and are not listed.
abbrev pub ListsDefinition : List ListedName → Definition → Type 0
ListsDefinition rows found =
    look_up predefined found.name ≡ None
    → (value : Value) × (found.value ≡ spot_of (Some value)) × Lists rows found.name value

-- a REF of a module is listed as external
abbrev pub ListsReference : List ListedName → Reference → Type 0
ListsReference rows found = Lists rows found.name (External found.name)

-- The listing has as many rows of lines as lines are read, and no name without a value; and each DEF and each REF of
-- the module is listed.
pub record ListsAll (module_ : Module) (contents : Contents) (source : List ℕ) (found : Listing) : Type 0 where
  pub lines : List Line
  pub line_layout : layout_copied (copied_by contents source) ≡ Ok lines
  pub rows : length found.lines ≡ length lines
  pub values : AllByRecursion HasValue found.names
  pub defs : AllByRecursion (ListsDefinition found.names) module_.defs
  pub refs : AllByRecursion (ListsReference found.names) module_.refs

-- the law, which is proved: so it is of each source that is accepted
abbrev pub ListingsHaveAll : Type 0
ListingsHaveAll =
    (contents : Contents) (source : List ℕ) (module_ : Module) → module_by contents source ≡ Ok module_
    → ListsAll module_ contents source (listing contents source)
