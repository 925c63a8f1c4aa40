-- What is read from the lines of a listing of `glist`.
use Rattle.std.specs.Prelude.{◌≡◌, ℕ, ◌+◌, ◌<◌, ◌≤◌, List, length, map, Ok}
use Rattle.std.specs.List.{AllByRecursion}
use Rattle.std.specs.FinMap.{empty}
use Rattle.expression_defs.specs.Expression.{Absolute}
use Rattle.expression_defs.specs.Symbols.{Names, predefined}
use Rattle.gpl_defs.specs.Image.{Image}
use Rattle.gpl_source_defs.specs.Programs.{Program, program_of_lines, program_of_source}
use Rattle.gpl_list_defs.specs.Rows.{Row, NameRow}
use Rattle.gpl_list_defs.specs.Text.{number_of, listing_lines}
use Rattle.gpl_list_defs.specs.Listing.{listing_of}
use Rattle.gpl_list_defs.specs.Laws.{with_rows, with_names}
use Rattle.debug_report_defs.specs.ListingReader.{image_read, names_read, texts_read}

-- a row whose bytes are bytes, at addresses that there are
pub record FitsColumns (row : Row) : Type 0 where
  pub bytes : AllByRecursion (λ byte. byte < 256) row.bytes
  pub addresses : 0 < length row.bytes → row.at + length row.bytes ≤ 65536

-- a name with a number of 16 bits
pub record FitsName (row : NameRow) : Type 0 where
  pub number : row.value ≡ Absolute (number_of row.value)
  pub word : number_of row.value < 65536

-- the lines of the listing of a source
abbrev pub lines_of : List ℕ → List (List ℕ)
lines_of source = listing_lines (listing_of source).rows (listing_of source).names

-- The law, which is proved. From the lines of rows and names that fit their columns the image and the names of these
-- are read, whatever the texts of the rows are. So from the lines of a source that is accepted, and from nothing else,
-- the image and the names of its program are read, and the texts of the lines are again a source of this program.
pub record ListingsAreRead : Type 0 where
  pub image : (rows : List Row) (names : List NameRow) (image : Image) → AllByRecursion FitsColumns rows
      → image_read image (listing_lines rows names) ≡ with_rows image rows
  pub names : (rows : List Row) (names : List NameRow) (known : Names) → AllByRecursion FitsName names
      → names_read known (listing_lines rows names) ≡ with_names known names
  pub images : (source : List ℕ) (program : Program) → program_of_source source ≡ Ok program
      → AllByRecursion FitsColumns (listing_of source).rows → image_read empty (lines_of source) ≡ program.image
  pub programs : (source : List ℕ) (program : Program) → program_of_source source ≡ Ok program
      → AllByRecursion FitsName (listing_of source).names → names_read predefined (lines_of source) ≡ program.names
  pub texts : (rows : List Row) (names : List NameRow)
      → texts_read (listing_lines rows names) ≡ map (λ row. row.text) rows
  pub sources : (source : List ℕ) (program : Program) → program_of_source source ≡ Ok program
      → program_of_lines (texts_read (lines_of source)) ≡ Ok program
