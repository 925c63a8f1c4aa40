-- What a run of a GPL source has at the addresses of the rows of its listing.
use Rattle.std.specs.Prelude.{◌≡◌, ℕ, ◌+◌, ◌%◌, ◌<◌, ◌≤◌, List, ◌∷◌, ◌++◌, length, slice_index, Ok, IsTrue}
use Rattle.std.specs.List.{AllByRecursion}
use Rattle.source_defs.specs.Lines.{line_texts}
use Rattle.expression_defs.specs.Symbols.{Names, look_up}
use Rattle.expression_defs.specs.Layout.{line_layout}
use Rattle.base_defs.specs.declared.size.TheConstants.{GROM_SIZE}
use Rattle.gpl_defs.specs.declared.instruction.GplInstr.{GplInstr}
use Rattle.gpl_defs.specs.Image.{AreBytesOf}
use Rattle.gpl_defs.specs.Bytes.{bytes_of}
use Rattle.gpl_defs.specs.Valid.{is_valid}
use Rattle.gpl_defs.specs.Reading.{reading}
use Rattle.gpl_step_defs.specs.State.{GplState, start}
use Rattle.gpl_step_defs.specs.Run.{run}
use Rattle.gpl_listing_defs.specs.Texts.{instr_text, read_text}
use Rattle.gpl_source_defs.specs.declared.location.Location.{Location}
use Rattle.gpl_source_defs.specs.Skeletons.{Skeleton}
use Rattle.gpl_source_defs.specs.Statements.{Instruction}
use Rattle.gpl_source_defs.specs.Locations.{Line, place}
use Rattle.gpl_source_defs.specs.FirstChecks.{check, names}
use Rattle.gpl_source_defs.specs.SecondChecks.{instruction}
use Rattle.gpl_source_defs.specs.Programs.{Program, program_of_source}
use Rattle.gpl_list_defs.specs.Rows.{Row, placed_bytes, row_of, rows}
use Rattle.gpl_list_defs.specs.Listing.{listing_of}

-- the bytes of a row are in an image at the row's address and those that follow it
abbrev pub RowIsIn : List ℕ → Row → Type 0
RowIsIn image row =
    (k : ℕ) → k < length row.bytes → row.at + k < 65536
    → slice_index image (row.at + k) ≡ slice_index row.bytes k

-- they lie in one GROM
pub record LiesInOneGrom (row : Row) : Type 0 where
  pub begins : row.at < 65536
  pub ends : row.at % GROM_SIZE + length row.bytes ≤ GROM_SIZE

-- A step of a state that begins at a row shows the row's instruction, if the row's bytes are those of one and lie in
-- one GROM.
abbrev pub ShowsRow : GplState → Row → Type 0
ShowsRow s row =
    (instr : GplInstr) → row.bytes ≡ bytes_of instr → IsTrue (is_valid instr) → LiesInOneGrom row → s.pc ≡ row.at
    → read_text (reading s.image s.pc) s.pc ≡ instr_text instr s.pc

-- A line with an instruction, at its place. The instruction that it is assembled to has bytes, which are the bytes of
-- the line's row and lie in one GROM. A step of a state that begins at the row's address shows this instruction.
pub record ShowsLine (s : GplState) (known : Names) (at : Location) (skeleton : Skeleton) (row : Row) : Type 0 where
  pub instr : GplInstr
  pub assembled : instruction (look_up known) at skeleton ≡ Ok instr
  pub valid : IsTrue (is_valid instr)
  pub bytes : row.bytes ≡ bytes_of instr
  pub lies : row.at % GROM_SIZE + length row.bytes ≤ GROM_SIZE
  pub shows : row.at < 65536 → s.pc ≡ row.at → read_text (reading s.image s.pc) s.pc ≡ instr_text instr s.pc

-- The listing of a source has a row for each of its lines, in their order, and a step of a state that begins at the row
-- of a line with an instruction shows what that line is assembled to.
pub record ShowsLines (source : List ℕ) (s : GplState) : Type 0 where
  pub lines : List Line
  pub line_layout : line_layout check (line_texts source) ≡ Ok lines
  pub rows : (listing_of source).rows ≡ rows (placed_bytes (names lines)) (line_texts source) lines
  pub each : (later before : List Line) (line : Line) (skeleton : Skeleton)
      → lines ≡ later ++ line ∷ before
      → line.statement ≡ Instruction skeleton
      → ShowsLine s (names lines) (place before line) skeleton
      (row_of (placed_bytes (names lines)) (line_texts source) before line)

-- The law, which is proved. No step changes the image. So the bytes of all rows that `glist` lists of an accepted
-- source are in each state of a run of its program, and a step that begins at a row shows the row's instruction,
-- whatever the state is otherwise; if it is the row of a line with an instruction, what the line is assembled to.
pub record RowsStayInRuns : Type 0 where
  pub image : (s : GplState) (made : ℕ) → (run made s).last.image ≡ s.image
  pub rows : (source : List ℕ) (program : Program) (image : List ℕ) (entry made : ℕ)
      → program_of_source source ≡ Ok program → AreBytesOf program.image image
      → AllByRecursion (RowIsIn (run made (start image entry)).last.image) (listing_of source).rows
  pub shows : (source : List ℕ) (program : Program) (image : List ℕ) (entry made : ℕ)
      → program_of_source source ≡ Ok program → AreBytesOf program.image image
      → AllByRecursion (ShowsRow (run made (start image entry)).last) (listing_of source).rows
  pub lines : (source : List ℕ) (program : Program) (image : List ℕ) (entry made : ℕ)
      → program_of_source source ≡ Ok program → AreBytesOf program.image image
      → ShowsLines source (run made (start image entry)).last
