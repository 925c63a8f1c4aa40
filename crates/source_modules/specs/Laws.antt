-- What the commands that read object text report of what `asm` reports.
use Rattle.std.specs.Prelude.{◌≡◌, ℕ, ◌≤◌, List, [], ◌∷◌, length, IfSome, Some, Result, Ok, ⊤}
use Rattle.std.specs.List.{concat}
use Rattle.std.specs.FinMap.{get}
use Rattle.tms_defs.specs.Bytes.{HoldsBytes}
use Rattle.object_defs.specs.Modules.{Module}
use Rattle.object_defs.specs.Reading.{read}
use Rattle.asm_defs.specs.Modules.{module_of_source}
use Rattle.link_defs.specs.LinkedMemory.{LinkedMemory, linked}
use Rattle.shelf_defs.specs.Files.{Files}
use Rattle.shelf_defs.specs.Assembly.{module_of_files}
use Rattle.report_defs.specs.declared.command.Command.TheVariants.{Asm, Link, Exec}
use Rattle.report_defs.specs.declared.status.Status.TheVariants.{Done}
use Rattle.report_defs.specs.ObjectFaults.{link_line}
use Rattle.report_defs.specs.ObjectInput.{with_line, linked_input}
use Rattle.report_defs.specs.Report.{Report, Whole, largest_input, link_report, ExecReport, ReportOn}
use Rattle.report_defs.specs.LinkedFiles.{as_linked}
use Rattle.report_defs.specs.FileReports.{ReportWith, files_report}
use Rattle.report_defs.specs.ProgramCommands.{AsmFiles, LinkFiles, OverFiles}

-- the linked memory of a module alone, or the line that says why there is none
abbrev pub linked_alone : Module → Result LinkedMemory (List ℕ)
linked_alone m = with_line link_line (linked (m ∷ []))

-- A text stands for a module: it reads as that module alone, `link` reports the linked memory of the module, and the
-- reports of `exec` are those of runs of this memory, and no others.
pub record IsTextOf (m : Module) (text : List ℕ) : Type 0 where
  pub reads : read text ≡ Ok (m ∷ [])
  pub links : linked_input text ≡ linked_alone m
  pub link : ReportOn Link text (link_report (linked_alone m))
  pub exec : (limit : ℕ) (report : Report)
      → ReportOn (Exec limit) text report → ExecReport limit (linked_alone m) report
  pub runs : (limit : ℕ) (report : Report)
      → ExecReport limit (linked_alone m) report → ReportOn (Exec limit) text report

-- The law, which is proved: if `asm` accepts a source of bytes, what it writes stands for the source's module, if it is
-- no larger than an input may be.
abbrev pub AssembledTextsAreRead : Type 0
AssembledTextsAreRead =
    (source : List ℕ) (pieces : List (List ℕ)) → HoldsBytes (length source) source
    → ReportOn Asm source (Whole Done pieces) → length (concat pieces) ≤ largest_input
    → (m : Module) × (module_of_source source ≡ Ok m) × IsTextOf m (concat pieces)

-- each file holds bytes
abbrev pub FilesHoldBytes : Files → Type 0
FilesHoldBytes files = (name : List ℕ) → IfSome (get files name) (λ bytes. HoldsBytes (length bytes) bytes)

-- a text that `asm` wrote of a source with the files that it copies, and the source's module
pub record IsAssembled (m : Module) (text : List ℕ) : Type 0 where
  pub source : List ℕ
  pub files : Files
  pub bytes : HoldsBytes (length source) source
  pub files_bytes : FilesHoldBytes files
  pub pieces : List (List ℕ)
  pub reported : ReportWith (OverFiles AsmFiles) source files (Whole Done pieces)
  pub module_is : module_of_files files source ≡ Ok m
  pub text_is : text ≡ concat pieces
  pub within : length text ≤ largest_input

-- The law, which is proved: so it is of a source that copies files.
abbrev pub AssembledFilesAreRead : Type 0
AssembledFilesAreRead = (m : Module) (text : List ℕ) → IsAssembled m text → IsTextOf m text

-- the files of some names, in their order, are what `asm` wrote of sources with these modules
abbrev pub AreAssembled : Files → List (List ℕ) → List Module → Type 0
AreAssembled files [] [] = ⊤
AreAssembled files (name ∷ names) (m ∷ modules) =
    ((text : List ℕ) × (get files name ≡ Some text) × IsAssembled m text) × AreAssembled files names modules
AreAssembled files names modules = ⊥

-- The law, which is proved: the report of `link` on such files is the linked memory of the modules, or why there is
-- none.
abbrev pub AssembledFilesLink : Type 0
AssembledFilesLink =
    (files : Files) (names : List (List ℕ)) (modules : List Module) (input : List ℕ) → AreAssembled files names modules
    → ReportWith (OverFiles (LinkFiles names)) input files (files_report (as_linked (linked modules)))
