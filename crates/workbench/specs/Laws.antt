-- What holds of all runs of the program with files.
use Rattle.watch_defs.specs.Laws.{HitsAreFirst}
use Rattle.watch_defs.specs.RangeLaw.{RangesHoldByTheirBytes}
use Rattle.report_defs.specs.Laws.{ListedWordsComeBackWith}
use Rattle.reports.specs.RunLaws.{LawsOfProgram}
use Rattle.source_modules.specs.Laws.{AssembledTextsAreRead, AssembledFilesAreRead, AssembledFilesLink}
use Rattle.bench_commands.specs.Laws.{LawsOfRuns}
use Rattle.workbench.specs.FileProgram.{file_program}

-- There is at most one report, it was written whole where nothing fails, and two runs alike end alike; what dis lists
-- is assembled to what was listed, whatever files there are; what `asm` writes of a source stands for the source's
-- module if `link` or `exec` reads it, and in the files that `link` names; what is found of watched items is the first
-- step at which one holds, a range by its bytes; and the laws of runs without files.
pub record LawsOfFileRuns : Type 0 where
  pub runs : LawsOfProgram file_program
  pub listed_words : ListedWordsComeBackWith
  pub assembled_texts : AssembledTextsAreRead
  pub assembled_files : AssembledFilesAreRead
  pub linked_files : AssembledFilesLink
  pub first_hits : HitsAreFirst
  pub ranges : RangesHoldByTheirBytes
  pub plain : LawsOfRuns
