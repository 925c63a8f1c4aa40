-- What the tables of the loader hold, in the terms of the definitions.
use Rattle.std.specs.Prelude.{◌≡◌, ℕ, List, Option, None, Result, Ok, Err}
use Rattle.std.specs.Option.{option_map, unwrap_or}
use Rattle.std.specs.Ordering.{nat_cmp}
use Rattle.std.specs.Cmp.Lexicographic.{slice_cmp}
use Rattle.std.specs.FinMap.{find}
use Rattle.std.specs.BTreeMap.{BTreeMap}
use Rattle.std.specs.BTreeMap as tree
use Rattle.link_defs.specs.Causes.{LinkCause, DuplicateDef, Overlap}
use Rattle.link_defs.specs.First.{first, refused_by}
use Rattle.link_defs.specs.Chains.{Uses}
use Rattle.link_defs.specs.LinkedMemory.{value_in, is_defined_again, is_taken}
use Rattle.link_loader.specs.declared.error.LinkError.{LinkError}
use Rattle.link_loader.specs.declared.table.Table.{Table}
use Rattle.link_loader.specs.Tables.{word_in}
use Rattle.link_loader.specs.Answers.{Refuses}

-- the word at an address
abbrev pub cell : Table → ℕ → Option ℕ
cell table at = word_in table.cells.items at

-- the names of a map are the names of DEFs, each with its value
abbrev pub KeepsNames : BTreeMap (List ℕ) ℕ → List (List ℕ × ℕ) → Type 0
KeepsNames names defs = (name : List ℕ) → tree.get (slice_cmp nat_cmp) names name ≡ value_in defs name

-- the words of a table are these
abbrev pub HoldsWords : Table → List (ℕ × ℕ) → Type 0
HoldsWords table words = (at : ℕ) → cell table at ≡ find nat_cmp at words

-- the value of a name, or 0
abbrev pub value_or_0 : List (List ℕ × ℕ) → List ℕ → ℕ
value_or_0 defs name = unwrap_or (value_in defs name) 0

-- at each use of a name a table has the name's value
abbrev pub HoldsUses : List (List ℕ × ℕ) → Table → Uses → Type 0
HoldsUses defs table uses = (at : ℕ) → cell table at ≡ option_map (value_or_0 defs) (find nat_cmp at uses)

-- each DEF has a name of its own, and a map keeps them; or the first that has not is refused
abbrev pub Defines : Result (BTreeMap (List ℕ) ℕ) LinkError → List (List ℕ × ℕ) → Type 0
Defines (Ok names) defs = (first is_defined_again defs ≡ None) × KeepsNames names defs
Defines (Err error) defs =
    Refuses error (refused_by (λ definition. DuplicateDef definition.0) (first is_defined_again defs))

-- each word has an address of its own, and a table holds them; or the first that has not is refused
abbrev pub Loads : Result Table LinkError → List (ℕ × ℕ) → Type 0
Loads (Ok table) words = (first is_taken words ≡ None) × HoldsWords table words
Loads (Err error) words = Refuses error (refused_by (λ word. Overlap word.0) (first is_taken words))

-- a table has the value of its name at each of the uses that are defined; or the first cause is given
abbrev pub Follows : {T : Type 0} → Result T LinkError → List (List ℕ × ℕ) → Table → Result Uses LinkCause → Type 0
Follows (Ok _) defs table defined = (uses : Uses) × (defined ≡ Ok uses) × HoldsUses defs table uses
Follows (Err error) defs table defined = Refuses error defined

-- a table that is made so; or the first cause
abbrev pub FollowsAll : Result Table LinkError → List (List ℕ × ℕ) → Result Uses LinkCause → Type 0
FollowsAll (Ok table) defs defined = (uses : Uses) × (defined ≡ Ok uses) × HoldsUses defs table uses
FollowsAll (Err error) defs defined = Refuses error defined
