-- What holds of all reports.
use Rattle.std.specs.Prelude.{◌≡◌, ℕ, ◌+◌, ◌*◌, ◌%◌, ◌≤◌, ◌<◌, List, ◌++◌, length, Some, None}
use Rattle.std.specs.Prelude.{Result, Ok}
use Rattle.std.specs.List.{concat}
use Rattle.std.specs.FinMap.{empty}
use Rattle.tms_defs.specs.Bytes.{HoldsBytes}
use Rattle.expression_defs.specs.Symbols.{predefined}
use Rattle.gpl_defs.specs.Image.{placed}
use Rattle.gpl_source_defs.specs.Programs.{program_of_source}
use Rattle.link_defs.specs.Causes.{LinkCause}
use Rattle.link_defs.specs.LinkedMemory.{LinkedMemory}
use Rattle.shelf_defs.specs.Files.{Files}
use Rattle.word_listings.specs.Modules.{padded_words}
use Rattle.word_listings.specs.Law.{AreFromEvenAddress, listed_module, entered_listing}
use Rattle.word_listings.specs.Linking.{first_outside, GivesWords}
use Rattle.report_defs.specs.declared.command.Command.{Command}
use Rattle.report_defs.specs.declared.command.Command.TheVariants.{Asm, Gasm, Dis, Gdis, Link}
use Rattle.report_defs.specs.declared.status.Status.{Status}
use Rattle.report_defs.specs.declared.status.Status.TheVariants.{Done}
use Rattle.report_defs.specs.GromListing.{image_listing}
use Rattle.report_defs.specs.ObjectFaults.{link_line}
use Rattle.report_defs.specs.ObjectInput.{with_line}
use Rattle.report_defs.specs.Report.{Report, Whole, Faulty, Rejected, RejectedAfter, asm_report, link_report, one_piece}
use Rattle.report_defs.specs.Report.{largest_input, ReportOn, PrefixOn}
use Rattle.report_defs.specs.ProgramCommands.{AsmFiles, OverFiles, Plain}
use Rattle.report_defs.specs.FileReports.{ReportWith}

-- One report is a front of another: its pieces are the first of the other's. The report of an input that is refused is
-- a front of itself alone.
abbrev pub IsPrefixOf : Report → Report → Type 0
IsPrefixOf (Whole status shown) report =
    (end : Status) × (others : List (List ℕ)) × (report ≡ Whole end (shown ++ others))
IsPrefixOf (Faulty fault) report = report ≡ Faulty fault
IsPrefixOf (Rejected line) report = report ≡ Rejected line
IsPrefixOf (RejectedAfter pieces line) report = report ≡ RejectedAfter pieces line

-- the law, which is proved: what is written before the end of a report is known begins the report
abbrev pub PrefixesBeginReports : Type 0
PrefixesBeginReports =
    (command : Command) (input : List ℕ) (front report : Report)
    → PrefixOn command input front → ReportOn command input report → IsPrefixOf front report

-- the text that gdis lists of bytes from an address on
abbrev pub listed_text : ℕ → List ℕ → List ℕ
listed_text at input = concat (image_listing (placed empty at input))

-- The law, which is proved: what gdis lists of an input is a source without refusal, and its image has the bytes of the
-- input at their addresses and no others.
abbrev pub ListedInputsComeBack : Type 0
ListedInputsComeBack =
    (at : ℕ) (input : List ℕ) → HoldsBytes (length input) input → at < 65536 → at + length input ≤ 65536
    → program_of_source (listed_text at input)
    ≡ Ok (record { image = placed empty at input; entry = None; names = predefined })

-- The law, which is proved: what gdis writes of an input has at most 16 bytes for each byte of it, and 299 more; and
-- the report of gasm on it is that input, if what is written is no larger than an input may be. So it is for each input
-- of up to 65,517 bytes.
abbrev pub ListedBytesComeBack : Type 0
ListedBytesComeBack =
    (at : ℕ) (input : List ℕ) (pieces : List (List ℕ))
    → HoldsBytes (length input) input → at < 65536
    → ReportOn (Gdis at) input (Whole Done pieces)
    → (length (concat pieces) ≤ 16 * length input + 299)
    × (length (concat pieces) ≤ largest_input → ReportOn Gasm (concat pieces) (Whole Done (one_piece input)))

-- The law, which is proved: the report of asm on what dis writes of an input is the object text of the module that has
-- its words at their addresses and nothing else; or the refusal of the first of its jumps that wraps around the ends of
-- memory. So what dis writes is never too large.
abbrev pub ListedWordsComeBack : Type 0
ListedWordsComeBack =
    (at : ℕ) (input : List ℕ) (pieces : List (List ℕ))
    → HoldsBytes (length input) input → at % 2 ≡ 0 → at < 65536
    → ReportOn (Dis at) input (Whole Done pieces)
    → ReportOn Asm (concat pieces) (asm_report (listed_module at input None))

-- The law, which is proved: the report of asm on what dis writes of an input, whatever files there are, is the object
-- text of the module that has its words at their addresses and nothing else; or the refusal of the first of its jumps
-- that wraps around the ends of memory. A listing copies no file.
abbrev pub ListedWordsComeBackWith : Type 0
ListedWordsComeBackWith =
    (at : ℕ) (input : List ℕ) (pieces : List (List ℕ)) (files : Files)
    → HoldsBytes (length input) input → at % 2 ≡ 0 → at < 65536
    → ReportWith (Plain (Dis at)) input files (Whole Done pieces)
    → ReportWith (OverFiles AsmFiles) (concat pieces) files (asm_report (listed_module at input None))

-- The law, which is proved: where an entry is written after END of what dis writes of an input, the report of asm is
-- the object text of the same module with that entry; or the same refusal.
abbrev pub EnteredWordsComeBack : Type 0
EnteredWordsComeBack =
    (at : ℕ) (input : List ℕ) (entry : ℕ) → AreFromEvenAddress at input → entry < 65536
    → ReportOn Asm (concat (entered_listing at input entry)) (asm_report (listed_module at input (Some entry)))

-- The law, which is proved: where that is object text, no larger than an input may be, the report of link on it is the
-- listing of the words of the input at their addresses and of nothing else, with that entry; or the refusal of the
-- first address at which nothing is loaded, exactly where there is one.
abbrev pub EnteredWordsLink : Type 0
EnteredWordsLink =
    (at : ℕ) (input : List ℕ) (entry : ℕ) (pieces : List (List ℕ)) → AreFromEvenAddress at input → entry < 65536
    → ReportOn Asm (concat (entered_listing at input entry)) (Whole Done pieces)
    → length (concat pieces) ≤ largest_input
    → (answer : Result LinkedMemory LinkCause)
    × GivesWords at (padded_words input) entry (first_outside at (padded_words input)) answer
    × ReportOn Link (concat pieces) (link_report (with_line link_line answer))
