-- Where the modules of a program are in memory.
--
-- Editor/Assembler manual, "Tagged object code": relocatable code may stand anywhere, and what is relocatable in a
-- module moves with it.
use Rattle.std.specs.Prelude.{ℕ, ◌+◌, ◌%◌, List, [], ◌∷◌, map}
use Rattle.std.specs.List.{flat_map}
use Rattle.std.specs.Option.{option_to_list}
use Rattle.object_defs.specs.declared.spot.Spot.{Spot}
use Rattle.object_defs.specs.declared.spot.Spot.TheVariants.{Absolute, Relocatable}
use Rattle.object_defs.specs.declared.spot.Piece.{Piece}
use Rattle.object_defs.specs.Modules.{Module, Definition, Reference}

-- a module, and the address from which on its relocatable code stands
pub record Section : Type 0 where
  pub base : ℕ
  pub part : Module

-- Profile: the relocatable code of the first module begins at >A000.
abbrev pub first_base : ℕ
first_base = 0xA000

-- a size, or the next one where it is odd
abbrev pub even_size : ℕ → ℕ
even_size size = size + size % 2

-- Profile: the code of each later module begins at the first even address at or after the end of the one before.
-- Addresses are counted without wrap.
abbrev pub sections_from : ℕ → List Module → List Section
sections_from base [] = []
sections_from base (m ∷ modules) =
    record { base = base; part = m } ∷ sections_from (base + even_size m.size) modules

abbrev pub sections : List Module → List Section
sections modules = sections_from first_base modules

-- the address of a spot in a module, without wrap
abbrev pub address_of : ℕ → Spot → ℕ
address_of base (Absolute number) = number
address_of base (Relocatable number) = base + number

-- Profile: a value has 16 bits.
abbrev pub value_of : ℕ → Spot → ℕ
value_of base spot = address_of base spot % 65536

-- What the modules say, one after the other, in each the order of its list.

-- a DEF name with its value
abbrev pub def_at : ℕ → Definition → List ℕ × ℕ
def_at base definition = (definition.name, value_of base definition.value)

-- a word after its address
abbrev pub word_at : ℕ → Piece → ℕ × ℕ
word_at base piece = (address_of base piece.at, value_of base piece.word)

-- a REF name with the place of its last use
abbrev pub ref_at : ℕ → Reference → List ℕ × ℕ
ref_at base reference = (reference.name, value_of base reference.last)

abbrev pub defs_of : List Section → List (List ℕ × ℕ)
defs_of sections = flat_map (λ section. map (def_at section.base) section.part.defs) sections

abbrev pub section_words : List Section → List (ℕ × ℕ)
section_words sections = flat_map (λ section. map (word_at section.base) section.part.pieces) sections

abbrev pub refs_of : List Section → List (List ℕ × ℕ)
refs_of sections = flat_map (λ section. map (ref_at section.base) section.part.refs) sections

-- the entries of the modules that have one
abbrev pub entries_of : List Section → List ℕ
entries_of sections = flat_map (λ section. map (value_of section.base) (option_to_list section.part.entry)) sections
