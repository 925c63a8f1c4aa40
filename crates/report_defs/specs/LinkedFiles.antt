-- The linked memory of files of object text.
--
-- Profile: all files are read first, in their order; then their texts are read in that order; and then the modules of
-- all are linked, in the order of the files.
use Rattle.std.specs.Prelude.{ℕ, ◌+◌, nat_lt, if◌then◌else◌, List, [], ◌∷◌, ◌++◌, length, Option, Some, None}
use Rattle.std.specs.Prelude.{Result, Ok, Err}
use Rattle.source_defs.specs.Refusals.{Refusal, ◌>>=◌}
use Rattle.object_defs.specs.declared.causes.TagCause.{TagCause}
use Rattle.object_defs.specs.Modules.{Module}
use Rattle.object_defs.specs.Reading.{read}
use Rattle.link_defs.specs.Causes.{LinkCause}
use Rattle.link_defs.specs.LinkedMemory.{LinkedMemory, linked}
use Rattle.shelf_defs.specs.Files.{Files, Contents, of_files}
use Rattle.report_defs.specs.Report.{largest_input}

-- why files are not linked: no file has a name, or one is too large, or its text is refused, or the modules are not
-- linked
pub data FilesRefusal : Type 0 where
  Missing : List ℕ → FilesRefusal
  TooLarge : FilesRefusal
  InFile : List ℕ → Refusal TagCause → FilesRefusal
  Unlinked : LinkCause → FilesRefusal

-- a file's bytes with its name. Profile: a file has at most 1,048,576 bytes, as an input has.
abbrev pub taken_file : List ℕ → Option (List ℕ) → Result (List ℕ × List ℕ) FilesRefusal
taken_file name None = Err (Missing name)
taken_file name (Some bytes) = if nat_lt largest_input (length bytes) then Err TooLarge else Ok (name, bytes)

-- The files of some names, each with its name, or the first that is refused; by the number of files that were asked for
-- before.
abbrev pub read_by : Contents → ℕ → List (List ℕ) → Result (List (List ℕ × List ℕ)) FilesRefusal
read_by contents number [] = Ok []
read_by contents number (name ∷ names) = do
  first ← taken_file name (contents number name)
  others ← read_by contents (number + 1) names
  Ok (first ∷ others)

abbrev pub read_files : Files → List (List ℕ) → Result (List (List ℕ × List ℕ)) FilesRefusal
read_files files names = read_by (of_files files) 0 names

-- an answer to a file's text
abbrev pub in_file : {A : Type 0} → List ℕ → Result A (Refusal TagCause) → Result A FilesRefusal
in_file name (Ok value) = Ok value
in_file name (Err refused) = Err (InFile name refused)

abbrev pub modules_of : List (List ℕ × List ℕ) → Result (List Module) FilesRefusal
modules_of [] = Ok []
modules_of (file ∷ files) = do
  first ← in_file file.0 (read file.1)
  others ← modules_of files
  Ok (first ++ others)

abbrev pub as_linked : Result LinkedMemory LinkCause → Result LinkedMemory FilesRefusal
as_linked (Ok memory) = Ok memory
as_linked (Err cause) = Err (Unlinked cause)

abbrev pub linked_texts : List (List ℕ × List ℕ) → Result LinkedMemory FilesRefusal
linked_texts texts = do
  modules ← modules_of texts
  as_linked (linked modules)

-- the linked memory of files, or why there is none
abbrev pub linked_files : Files → List (List ℕ) → Result LinkedMemory FilesRefusal
linked_files files names = do
  texts ← read_files files names
  linked_texts texts
