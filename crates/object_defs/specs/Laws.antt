-- What a written module reads as.
use Rattle.std.specs.Prelude.{◌≡◌, ◌<◌, [], ◌∷◌, IfSome, Ok, IsTrue}
use Rattle.std.specs.List.{AllByRecursion}
use Rattle.source_defs.specs.Names.{is_kept_name}
use Rattle.object_defs.specs.declared.spot.Spot.{Spot}
use Rattle.object_defs.specs.declared.spot.Piece.{Piece}
use Rattle.object_defs.specs.Modules.{Module, Definition, Reference, HasText, number_of, is_module_name}
use Rattle.object_defs.specs.Writing.{written}
use Rattle.object_defs.specs.Reading.{read}

-- a number of 16 bits
abbrev pub FitsSpot : Spot → Type 0
FitsSpot spot = number_of spot < 65536

pub record FitsPiece (piece : Piece) : Type 0 where
  pub at : FitsSpot piece.at
  pub word : FitsSpot piece.word

pub record FitsDefinition (definition : Definition) : Type 0 where
  pub name : IsTrue (is_kept_name definition.name)
  pub value : FitsSpot definition.value

pub record FitsReference (reference : Reference) : Type 0 where
  pub name : IsTrue (is_kept_name reference.name)
  pub last : FitsSpot reference.last

-- a module of numbers of 16 bits and of names
pub record IsModule (m : Module) : Type 0 where
  pub name : IsTrue (is_module_name m.name)
  pub size : m.size < 65536
  pub pieces : AllByRecursion FitsPiece m.pieces
  pub defs : AllByRecursion FitsDefinition m.defs
  pub refs : AllByRecursion FitsReference m.refs
  pub entry : IfSome m.entry FitsSpot

-- the law, which is proved: the written text of a module reads as that module alone
abbrev pub WrittenModulesAreRead : Type 0
WrittenModulesAreRead = (m : Module) → IsModule m → HasText m → read (written m) ≡ Ok (m ∷ [])
