-- What holds of all runs of `ti_debug`, and of all programs that it runs.
use Rattle.interp_build_defs.specs.Interpreter.{SourceGivesWords}
use Rattle.reports.specs.RunLaws.{LawsOfProgram}
use Rattle.gpl_list_defs.specs.Laws.{ListingsGivePrograms}
use Rattle.row_laws.specs.Laws.{RowsStayInRuns}
use Rattle.row_laws.specs.Listings.{ListingsHaveAll}
use Rattle.asm_list_defs.specs.Laws.{ListingsShowModules}
use Rattle.machine_change_defs.specs.Laws.{ChangesGiveMemory}
use Rattle.gpl_counts.specs.Laws.{CountsAreBounded, CountsAreInstructions}
use Rattle.debug_report_defs.specs.Laws.{DebugFrontsBeginReports, GrunReportsAsRun, LinesGiveStates}
use Rattle.debug_report_defs.specs.ListingLaws.{ListingsAreRead}
use Rattle.debug_report_defs.specs.SiblingLaws.{SiblingsReportAlike}
use Rattle.debug_report_defs.specs.MachineLaws.{MachineLinesGiveStates}
use Rattle.debug_commands.specs.Debug.{debug_program}
use Rattle.debug_commands.specs.AssembledSteps.{AssembledTextsStep}

-- There is at most one report, it was written whole if nothing fails, and two runs alike end alike. What is written
-- before the end of a report is known begins the report. The bytes of the rows of a listing of a GPL source at their
-- addresses are the image of the source, and its names are the names of the source. Both are read from its lines alone,
-- and the texts in these are again a source of the program. The bytes of the rows are in each state of a run, and a
-- step that begins at the row of an instruction shows it. The listing of an assembler source that is accepted shows its
-- module, and has a row for each line and each name. A source is refused as `gasm` and `asm` refuse it, and after the
-- lines of steps comes what `run` or `exec` writes. From the lines of steps, and from the lines of instructions, their
-- fronts and their changes are read, and the changes give the states. What `asm` writes of a source, read by `steps`,
-- is the module of the source. `grun` has the reports of `run` of `ti_bench`. The counts of the machines of a run are
-- the numbers of instructions that lead to them, and have a bound by the number of steps. The words that the machine
-- holds are the linked memory of the interpreter's source.
pub record LawsOfDebugRuns : Type 0 where
  pub runs : LawsOfProgram debug_program
  pub fronts : DebugFrontsBeginReports
  pub listings : ListingsGivePrograms
  pub lines : ListingsAreRead
  pub standing : RowsStayInRuns
  pub modules : ListingsShowModules
  pub complete : ListingsHaveAll
  pub siblings : SiblingsReportAlike
  pub states : LinesGiveStates
  pub memory : ChangesGiveMemory
  pub instructions : MachineLinesGiveStates
  pub assembled : AssembledTextsStep
  pub plain : GrunReportsAsRun
  pub counts : CountsAreInstructions
  pub bounds : CountsAreBounded
  pub interpreter : SourceGivesWords
