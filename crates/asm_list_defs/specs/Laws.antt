-- What holds of the listings of all sources.
use Rattle.std.specs.Prelude.{◌≡◌, ℕ, ◌+◌, ◌<◌, List, [], ◌∷◌, ◌++◌, map, slice_get, None, Ok, IsTrue}
use Rattle.object_defs.specs.Modules.{Module, Reference}
use Rattle.expression_defs.specs.Layout as layout
use Rattle.expression_defs.specs.Layout.{set_or}
use Rattle.asm_defs.specs.Locations.{Line}
use Rattle.asm_defs.specs.FirstChecks as first
use Rattle.asm_defs.specs.FirstChecks.{refs}
use Rattle.asm_defs.specs.Memory.{AssembledLine, bytes_in, is_placed_in, contents, content_at}
use Rattle.asm_defs.specs.Modules as modules
use Rattle.asm_defs.specs.Modules.{unused}
use Rattle.shelf_defs.specs.Files.{Contents}
use Rattle.shelf_defs.specs.Copied.{copied_by}
use Rattle.shelf_defs.specs.Assembly.{module_by, layout_copied}
use Rattle.asm_list_defs.specs.Listed.{Shown, Listing, placed_at, paired, listed_names, listing}

-- What is shown of a line that has an outcome. Profile: a line that sets a location is shown at that.
abbrev pub shown_assembled : Line → AssembledLine → Shown
shown_assembled line found = record { at = set_or line.origin found.at; outcome = placed_at found.at found.outcome }

-- lines and their outcomes, in the order of the lines
abbrev pub shown_in_order : List Line → List AssembledLine → List Shown
shown_in_order [] others = []
shown_in_order (line ∷ before) [] = []
shown_in_order (line ∷ before) (found ∷ others) = shown_in_order before others ++ shown_assembled line found ∷ []

-- The bytes of each line are in the module's parts at the line's places: no line after it covers one of them.
abbrev pub AreAtTheirPlaces : List Reference → List AssembledLine → Type 0
AreAtTheirPlaces references found =
    (later before : List AssembledLine) (line : AssembledLine) (k : ℕ) → found ≡ later ++ line ∷ before
    → IsTrue (is_placed_in line.at.part) → k < bytes_in line.outcome
    → content_at references found line.at.part (line.at.number + k) ≡ slice_get (contents references before line) k

-- A source that is accepted: its module is made of its lines and of their outcomes, and so is its listing.
pub record IsListed (module_ : Module) (contents : Contents) (source : List ℕ) (found : Listing) : Type 0 where
  pub lines : List Line
  pub line_layout : layout_copied (copied_by contents source) ≡ Ok lines
  pub assembled_lines : List AssembledLine
  pub come : layout.assembled_lines (modules.assembled_line (first.names lines)) lines ≡ Ok assembled_lines
  pub is : module_ ≡ modules.module_by lines assembled_lines
  pub shows : found.lines ≡ paired (copied_by contents source).lines (shown_in_order lines assembled_lines)
  pub names : found.names ≡ listed_names (copied_by contents source).lines lines
  pub whole : found.refusal ≡ None
  pub are_at_places : AreAtTheirPlaces (map unused (refs lines)) assembled_lines

-- the law, which is proved: the listing of an accepted source shows its module
abbrev pub ListingsShowModules : Type 0
ListingsShowModules =
    (contents : Contents) (source : List ℕ) (module_ : Module) → module_by contents source ≡ Ok module_
    → IsListed module_ contents source (listing contents source)
