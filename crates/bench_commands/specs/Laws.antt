-- What holds of all runs of `bench`, and of all programs that it runs.
use Rattle.word_listings.specs.Law.{EnteredListingsComeBack}
use Rattle.word_listings.specs.Linking.{EnteredListingsLink}
use Rattle.interp_build_defs.specs.Interpreter.{SourceGivesWords}
use Rattle.report_defs.specs.Laws.{PrefixesBeginReports, ListedInputsComeBack, ListedBytesComeBack}
use Rattle.report_defs.specs.Laws.{ListedWordsComeBack, EnteredWordsComeBack, EnteredWordsLink}
use Rattle.reports.specs.RunLaws.{LawsOfProgram}
use Rattle.bench_commands.specs.Bench.{bench_program}

-- There is at most one report, it was written whole where nothing fails, and two runs alike end alike. What is written
-- before the end of a report is known begins the report. The words that the machine holds are the linked memory of the
-- interpreter's source. What gdis and dis list is assembled to what was listed, also with an entry after END of a
-- listing of dis, and such a listing is linked to it: as reports, and as the images and modules of sources, which have
-- no limit of size.
pub record LawsOfRuns : Type 0 where
  pub runs : LawsOfProgram bench_program
  pub fronts : PrefixesBeginReports
  pub interpreter : SourceGivesWords
  pub listed_bytes : ListedBytesComeBack
  pub listed_words : ListedWordsComeBack
  pub entered_words : EnteredWordsComeBack
  pub linked_words : EnteredWordsLink
  pub listed_images : ListedInputsComeBack
  pub entered_modules : EnteredListingsComeBack
  pub linked_modules : EnteredListingsLink
