-- What holds of all listings.
use Rattle.std.specs.Prelude.{◌≡◌, ℕ, List, [], ◌∷◌, Result, Ok, Err}
use Rattle.std.specs.FinMap.{empty, insert}
use Rattle.expression_defs.specs.Symbols.{Names, predefined}
use Rattle.source_defs.specs.Refusals.{Refusal}
use Rattle.gpl_defs.specs.Image.{Image, placed}
use Rattle.gpl_source_defs.specs.declared.causes.GplCause.{GplCause}
use Rattle.gpl_source_defs.specs.Programs.{Program, program_of_source}
use Rattle.gpl_list_defs.specs.Rows.{Row, NameRow}
use Rattle.gpl_list_defs.specs.Listing.{Listing, listing_of}

-- an image with the bytes of rows, each row at its address
abbrev pub with_rows : Image → List Row → Image
with_rows image [] = image
with_rows image (row ∷ rows) = with_rows (placed image row.at row.bytes) rows

-- names with some more
abbrev pub with_names : Names → List NameRow → Names
with_names names [] = names
with_names names (row ∷ rows) = with_names (insert names row.name row.value) rows

-- the bytes of the rows at their addresses are the image, and the names are the names of the program beside the
-- registers
pub record GivesProgram (listing : Listing) (program : Program) : Type 0 where
  pub image : with_rows empty listing.rows ≡ program.image
  pub names : with_names predefined listing.names ≡ program.names
  pub accepted : listing.refused ≡ Ok tt

-- where there is no program, the refused line is reported
abbrev pub ListsOf : Listing → Result Program (Refusal GplCause) → Type 0
ListsOf listing (Ok program) = GivesProgram listing program
ListsOf listing (Err refused) = listing.refused ≡ Err refused

-- The law, which is proved: the listing of a source that is accepted gives the program of the source, and the listing
-- of one that is refused gives its refused line.
abbrev pub ListingsGivePrograms : Type 0
ListingsGivePrograms = (source : List ℕ) → ListsOf (listing_of source) (program_of_source source)
