-- The lines of a source with the lines of the files that it copies.
--
-- Profile: each line keeps its number in its own file. Lines after the first END line of any file are not read. A file
-- is copied at most four deep, and a source copies at most 64 files in all, each of at most 262,144 bytes. Of a COPY
-- line that is refused for several causes, the first in this order counts: its form, its depth, that 64 COPY lines
-- are before it, that no file has the name, and the size of the file.
use Rattle.std.specs.Prelude.{ℕ, zero, suc, ◌+◌, nat_lt, nat_le, if◌then◌else◌, List, [], ◌∷◌, ◌++◌, length}
use Rattle.std.specs.Prelude.{Option, Some, None, Result, Ok, Err}
use Rattle.std.specs.Option.{ok_or}
use Rattle.source_defs.specs.Refusals.{◌>>=◌, unless}
use Rattle.source_defs.specs.Lines.{line_texts}
use Rattle.asm_defs.specs.declared.causes.AsmCause.{AsmCause}
use Rattle.shelf_defs.specs.declared.limits.TheConstants.{LARGEST_INPUT}
use Rattle.shelf_defs.specs.Files.{Files, Contents, of_files}
use Rattle.shelf_defs.specs.CopyLines.{LineKind, Itself, File, Bad, asked, ends_source}

-- where a line stands: in a file, or in the source itself; and its number there, from 1
pub record Place : Type 0 where
  pub file : Option (List ℕ)
  pub line : ℕ

-- a line and its place
pub record PlacedLine : Type 0 where
  pub place : Place
  pub text : List ℕ

-- why a line is refused: by the assembler; or a COPY line for its form, its depth, as the 65th, or because no file has
-- the name
pub data Cause : Type 0 where
  Asm : AsmCause → Cause
  BadCopy : Cause
  TooDeep : Cause
  TooMany : Cause
  Missing : List ℕ → Cause

-- why a source with its files is refused: a line is, or a file is too large
pub data CopyRefusal : Type 0 where
  At : Place → Cause → CopyRefusal
  TooLarge : CopyRefusal

-- what comes after some lines: more lines may, none does after a line that ends the source, or a line or a file is
-- refused
pub data Ending : Type 0 where
  Open : Ending
  Ended : Ending
  Refused : CopyRefusal → Ending

-- some lines, how many COPY lines were met so far, and what comes after these lines
pub record Copied : Type 0 where
  pub lines : List PlacedLine
  pub copies : ℕ
  pub ending : Ending

-- Profile: an input has at most 1,048,576 bytes.
abbrev pub largest_input : ℕ
largest_input = LARGEST_INPUT

abbrev pub deepest : ℕ
deepest = 4

abbrev pub most_copies : ℕ
most_copies = 64

abbrev pub most_bytes : ℕ
most_bytes = 262144

-- no lines
abbrev pub nothing : ℕ → Copied
nothing copies = record { lines = []; copies = copies; ending = Open }

abbrev pub refused : ℕ → CopyRefusal → Copied
refused copies refusal = record { lines = []; copies = copies; ending = Refused refusal }

-- lines before others
abbrev pub prepend : List PlacedLine → Copied → Copied
prepend lines found = record { lines = lines ++ found.lines; copies = found.copies; ending = found.ending }

-- lines and then others, unless nothing may come after the first
abbrev pub then_by : Ending → Copied → (ℕ → Copied) → Copied
then_by Open found next = prepend found.lines (next found.copies)
then_by Ended found next = found
then_by (Refused refusal) found next = found

abbrev pub followed : Copied → (ℕ → Copied) → Copied
followed found next = then_by found.ending found next

-- a line that stands for itself
abbrev pub own_line : Place → ℕ → List ℕ → Copied
own_line place copies text =
    record {
      lines = record { place = place; text = text } ∷ [];
      copies = copies;
      ending = if ends_source text then Ended else Open;
    }

-- by the outcome of the COPY line at a place, after a number of others, that copies a file of this name
module _ (copy : Place → ℕ → List ℕ → Copied) where
  abbrev pub asked_line : LineKind → Place → ℕ → List ℕ → Copied
  asked_line Itself place copies text = own_line place copies text
  asked_line (File name) place copies text = copy place copies name
  asked_line Bad place copies text = refused copies (At place BadCopy)

  -- the outcome of a line
  abbrev pub one_line : Place → ℕ → List ℕ → Copied
  one_line place copies text = asked_line (asked text) place copies text

  -- the outcomes of lines of a file, by their numbers
  abbrev pub lines_in : Option (List ℕ) → ℕ → List (ℕ × List ℕ) → Copied
  lines_in file copies [] = nothing copies
  lines_in file copies (line ∷ lines) =
      followed (one_line (record { file = file; line = line.0 }) copies line.1) (λ copies. lines_in file copies lines)

-- the outcome of a COPY line that is not refused, and of one that is
abbrev pub either : Result Copied Copied → Copied
either (Ok found) = found
either (Err found) = found

-- The outcome of a COPY line, by the number of levels of files that may still be copied. It counts among the COPY lines
-- once its file is asked for.
module _ (contents : Contents) where
  abbrev pub copy_line : ℕ → Place → ℕ → List ℕ → Copied
  copy_line zero place copies name = refused copies (At place TooDeep)
  copy_line (suc levels) place copies name = either (do
    name ← unless (nat_le most_copies copies) (refused copies (At place TooMany)) name
    bytes ← ok_or (contents copies name) (refused (copies + 1) (At place (Missing name)))
    bytes ← unless (nat_lt most_bytes (length bytes)) (refused (copies + 1) TooLarge) bytes
    Ok (lines_in (copy_line levels) (Some name) (copies + 1) (line_texts bytes)))

-- the lines of a source with the lines of the files that it copies
abbrev pub copied_by : Contents → List ℕ → Copied
copied_by contents source = lines_in (copy_line contents deepest) None 0 (line_texts source)

abbrev pub copied : Files → List ℕ → Copied
copied files source = copied_by (of_files files) source
