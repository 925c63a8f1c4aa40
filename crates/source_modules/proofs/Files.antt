-- The module of a source that copies files, and the linked memory of files that `asm` wrote.
use Rattle.std.proofs.Common.{◌≡◌, ℕ, zero, suc, ◌+◌, ◌≤◌, Bool, true, false, List, [], ◌∷◌, ◌++◌, Some, None, Ok, Err, length, refl, sym, ap, ◌∙◌}
use Rattle.std.specs.Prelude.{Option, Result, IfSome, nat_lt, nat_le}
use Rattle.std.specs.List.{AllByRecursion, concat}
use Rattle.std.specs.Option.{ok_or}
use Rattle.tms_defs.specs.Bytes.{HoldsBytes}
use Rattle.source_defs.specs.Refusals.{Refusal, ◌>>=◌, unless}
use Rattle.source_defs.specs.Lines.{lines, line_texts, numbered}
use Rattle.expression_defs.specs.Layout.{line_layout}
use Rattle.object_defs.specs.Modules.{Module, HasText}
use Rattle.object_defs.specs.Writing.{written_lines, written}
use Rattle.object_defs.specs.Reading.{read}
use Rattle.object_defs.specs.Laws.{IsModule}
use Rattle.asm_defs.specs.declared.causes.AsmCause.{AsmCause}
use Rattle.asm_defs.specs.Locations.{Line}
use Rattle.asm_defs.specs.FirstChecks.{check}
use Rattle.asm_defs.specs.Modules.{module_of, module_after}
use Rattle.asm_defs.proofs.CheckLaws.{bound}
use Rattle.asm_core.proofs.TextLaws.{module_has_text}
use Rattle.link_defs.specs.LinkedMemory.{linked}
use Rattle.shelf_defs.specs.Files.{Files, Contents, of_files}
use Rattle.shelf_defs.specs.CopyLines.{LineKind, Itself, File, Bad, asked}
use Rattle.shelf_defs.specs.Copied.{Place, PlacedLine, CopyRefusal, At, TooLarge, TooMany, Missing, Ending, Open, Ended, Refused, Copied, deepest}
use Rattle.shelf_defs.specs.Copied.{most_copies, most_bytes}
use Rattle.shelf_defs.specs.Copied.{refused, then_by, asked_line, one_line, lines_in, either, copy_line, copied_by}
use Rattle.shelf_defs.specs.Assembly.{texts, in_place, unless_refused, layout_copied, module_of_copied, module_of_files}
use Rattle.report_defs.specs.declared.status.Status.TheVariants.{Done}
use Rattle.report_defs.specs.Report.{Whole, largest_input}
use Rattle.report_defs.specs.LinkedFiles.{FilesRefusal, taken_file, read_by, read_files, modules_of, as_linked, linked_texts}
use Rattle.report_defs.specs.FileReports.{copy_report, ReportWith, files_report}
use Rattle.report_defs.specs.ProgramCommands.{AsmFiles, OverFiles}
use Rattle.source_modules.specs.Laws.{FilesHoldBytes, IsAssembled, AreAssembled, AssembledFilesAreRead, AssembledFilesLink}
use Rattle.source_modules.proofs.Bytes.{AreBytes, bytes_of}
use Rattle.source_modules.proofs.LayoutLine.{TextBytes}
use Rattle.source_modules.proofs.Modules.{module_is, parts_bytes}
use Rattle.source_modules.proofs.Reports.{small, is_text_of}

-- ---- the copied lines are of bytes

abbrev PlacedBytes : PlacedLine → Type 0
PlacedBytes line = AreBytes line.text

abbrev CopiedBytes : Copied → Type 0
CopiedBytes found = AllByRecursion PlacedBytes found.lines

abbrev ContentsBytes : Contents → Type 0
ContentsBytes contents = (number : ℕ) (name : List ℕ) → IfSome (contents number name) (λ bytes. HoldsBytes (length bytes) bytes)

all_append : {A : Type 0} (P : A → Type 0) (first second : List A) → AllByRecursion P first → AllByRecursion P second → AllByRecursion P (first ++ second)
all_append P [] second all others = others
all_append P (item ∷ first) second all others = (all.0, all_append P first second all.1 others)

then_bytes : (ending : Ending) (found : Copied) (next : ℕ → Copied) → CopiedBytes found → ((copies : ℕ) → CopiedBytes (next copies))
    → CopiedBytes (then_by ending found next)
then_bytes Open found next are more = all_append PlacedBytes found.lines (next found.copies).lines are (more found.copies)
then_bytes Ended found next are more = are
then_bytes (Refused refusal) found next are more = are

module _ (copy : Place → ℕ → List ℕ → Copied) (copies_bytes : (place : Place) (copies : ℕ) (name : List ℕ) → CopiedBytes (copy place copies name)) where
  asked_bytes : (kind : LineKind) (place : Place) (copies : ℕ) (text : List ℕ) → AreBytes text → CopiedBytes (asked_line copy kind place copies text)
  asked_bytes Itself place copies text are = (are, tt)
  asked_bytes (File name) place copies text are = copies_bytes place copies name
  asked_bytes Bad place copies text are = tt

  lines_bytes : (lines : List (ℕ × List ℕ)) (file : Option (List ℕ)) (copies : ℕ) → AllByRecursion TextBytes lines
      → CopiedBytes (lines_in copy file copies lines)
  lines_bytes [] file copies are = tt
  lines_bytes (line ∷ lines) file copies are =
      let found = one_line copy (record { file = file; line = line.0 }) copies line.1 in
      then_bytes found.ending found (λ copies. lines_in copy file copies lines)
      (asked_bytes (asked line.1) (record { file = file; line = line.0 }) copies line.1 are.0) (λ copies. lines_bytes lines file copies are.1)

text_bytes : (text : List ℕ) → HoldsBytes (length text) text → AllByRecursion TextBytes (line_texts text)
text_bytes text holds = parts_bytes text (lines text) (bytes_of text holds.fits)

module _ (contents : Contents) (hold : ContentsBytes contents) where
  abbrev AllCopied : ℕ → Type 0
  AllCopied levels = (place : Place) (copies : ℕ) (name : List ℕ) → CopiedBytes (copy_line contents levels place copies name)

  module _ (levels : ℕ) (again : AllCopied levels) (place : Place) (copies : ℕ) (name : List ℕ) where
    abbrev lines_of : List ℕ → List ℕ → Copied
    lines_of name bytes = lines_in (copy_line contents levels) (Some name) (copies + 1) (line_texts bytes)

    abbrev copied_of : List ℕ → Option (List ℕ) → Result Copied Copied
    copied_of name found =
        ok_or found (refused (copies + 1) (At place (Missing name)))
        >>= λ bytes. unless (nat_lt most_bytes (length bytes)) (refused (copies + 1) TooLarge) bytes
        >>= λ bytes. Ok (lines_of name bytes)

    large_by : (b : Bool) (bytes : List ℕ) → HoldsBytes (length bytes) bytes
        → CopiedBytes (either (unless b (refused (copies + 1) TooLarge) bytes >>= λ bytes. Ok (lines_of name bytes)))
    large_by true bytes holds = tt
    large_by false bytes holds = lines_bytes (copy_line contents levels) again (line_texts bytes) (Some name) (copies + 1) (text_bytes bytes holds)

    found_by : (found : Option (List ℕ)) → IfSome found (λ bytes. HoldsBytes (length bytes) bytes) → CopiedBytes (either (copied_of name found))
    found_by None holds = tt
    found_by (Some bytes) holds = large_by (nat_lt most_bytes (length bytes)) bytes holds

    many_by : (many : Bool) → CopiedBytes (either (unless many (refused copies (At place TooMany)) name >>= λ name. copied_of name (contents copies name)))
    many_by true = tt
    many_by false = found_by (contents copies name) (hold copies name)

  copy_bytes : (levels : ℕ) → AllCopied levels
  copy_bytes zero place copies name = tt
  copy_bytes (suc levels) place copies name = many_by levels (copy_bytes levels) place copies name (nat_le most_copies copies)

  source_bytes : (source : List ℕ) → HoldsBytes (length source) source → CopiedBytes (copied_by contents source)
  source_bytes source holds = lines_bytes (copy_line contents deepest) (copy_bytes deepest) (line_texts source) None 0 (text_bytes source holds)

numbered_bytes : (number : ℕ) (lines : List PlacedLine) → AllByRecursion PlacedBytes lines → AllByRecursion TextBytes (numbered number (texts lines))
numbered_bytes number [] are = tt
numbered_bytes number (line ∷ lines) are = (are.0, numbered_bytes (number + 1) lines are.1)

-- ---- their module

placed_is : {A : Type 0} (lines : List PlacedLine) (answer : Result A (Refusal AsmCause)) (found : A) → in_place lines answer ≡ Ok found → answer ≡ Ok found
placed_is lines (Ok value) found e = cc e
placed_is lines (Err refusal) found e = cc e

kept_is : (ending : Ending) (lines found : List Line) → unless_refused ending lines ≡ Ok found → lines ≡ found
kept_is Open lines found e = cc e
kept_is Ended lines found e = cc e
kept_is (Refused refusal) lines found e = cc e

copied_module : (found : Copied) (m : Module) → module_of_copied found ≡ Ok m → module_of (numbered 1 (texts found.lines)) ≡ Ok m
copied_module found m e =
    let a = bound (layout_copied found) _ m e in
    let b = bound (in_place found.lines (line_layout check (numbered 1 (texts found.lines)))) _ a.0 a.1 in
    let layout_is = placed_is found.lines (line_layout check (numbered 1 (texts found.lines))) b.0 b.1 in
    let kept = kept_is found.ending b.0 a.0 b.2 in
    let after = placed_is found.lines (module_after a.0) m a.2 in
    ap (λ answer. answer >>= module_after) (layout_is ∙ ap Ok kept) ∙ after

answers_bytes : (files : Files) → FilesHoldBytes files → ContentsBytes (of_files files)
answers_bytes files hold number name = hold name

record IsWhole (m : Module) : Type 0 where
  is : IsModule m
  has : HasText m

files_module : (files : Files) (source : List ℕ) (m : Module) → FilesHoldBytes files → HoldsBytes (length source) source → module_of_files files source ≡ Ok m
    → IsWhole m
files_module files source m hold holds e =
    let found = copied_by (of_files files) source in
    let of_lines = copied_module found m e in
    let are = numbered_bytes 1 found.lines (source_bytes (of_files files) (answers_bytes files hold) source holds) in
    record { is = module_is (numbered 1 (texts found.lines)) m are of_lines; has = module_has_text (numbered 1 (texts found.lines)) m of_lines }

-- ---- what `asm` wrote of it

copied_text : (found : Result Module CopyRefusal) (m : Module) (pieces : List (List ℕ)) → found ≡ Ok m → Whole Done pieces ≡ copy_report found
    → concat pieces ≡ written m
copied_text (Ok made) m pieces e is =
    let same : pieces ≡ written_lines made = cc is in
    let one : made ≡ m = cc e in
    ap concat same ∙ ap written one
copied_text (Err refusal) m pieces e is = cc e

not_large : (large : Bool) (files : Files) (source : List ℕ) (pieces : List (List ℕ)) → nat_lt largest_input (length source) ≡ large
    → ReportWith (OverFiles AsmFiles) source files (Whole Done pieces) → Whole Done pieces ≡ copy_report (module_of_files files source)
not_large true files source pieces e reported = absurd (cc (rw e at reported))
not_large false files source pieces e reported = rw e at reported

text_is : (m : Module) (text : List ℕ) → (it : IsAssembled m text) → text ≡ written m
text_is m text it =
    it.text_is ∙ copied_text (module_of_files it.files it.source) m it.pieces it.module_is
    (not_large (nat_lt largest_input (length it.source)) it.files it.source it.pieces refl it.reported)

pub assembled_files_are_read : AssembledFilesAreRead
assembled_files_are_read m text it =
    let whole = files_module it.files it.source m it.files_bytes it.bytes it.module_is in
    is_text_of m text whole.is whole.has (text_is m text it) it.within

-- ---- several files

module _ (files : Files) where
  abbrev memory_of : Result (List (List ℕ × List ℕ)) FilesRefusal → Result (List Module) FilesRefusal
  memory_of answer = answer >>= modules_of

  taken : (name text : List ℕ) (found : Option (List ℕ)) → found ≡ Some text → length text ≤ largest_input → taken_file name found ≡ Ok (name, text)
  taken name text found e le = rw (e, small text le) refl

  more_modules : (name text : List ℕ) (m : Module) (modules : List Module) (others : Result (List (List ℕ × List ℕ)) FilesRefusal) → read text ≡ Ok (m ∷ [])
      → memory_of others ≡ Ok modules → memory_of (others >>= λ others. Ok ((name, text) ∷ others)) ≡ Ok (m ∷ modules)
  more_modules name text m modules (Ok others) reads are = rw (reads, are) refl
  more_modules name text m modules (Err refusal) reads are = cc are

  all_modules : (names : List (List ℕ)) (modules : List Module) (number : ℕ) → AreAssembled files names modules
      → memory_of (read_by (of_files files) number names) ≡ Ok modules
  all_modules [] [] number are = refl
  all_modules (name ∷ names) (m ∷ modules) number are =
      let text = are.0.0 in
      let it = are.0.2 in
      let is_resolved = assembled_files_are_read m text it in
      let take = taken name text (of_files files number name) are.0.1 it.within in
      let others = read_by (of_files files) (number + 1) names in
      ap (λ first. memory_of (first >>= λ first. others >>= λ others. Ok (first ∷ others))) take
      ∙ more_modules name text m modules others is_resolved.reads (all_modules names modules (number + 1) are.1)
  all_modules [] (m ∷ modules) number are = absurd are
  all_modules (name ∷ names) [] number are = absurd are

  linked_by : (texts : Result (List (List ℕ × List ℕ)) FilesRefusal) (modules : List Module) → memory_of texts ≡ Ok modules
      → (texts >>= linked_texts) ≡ as_linked (linked modules)
  linked_by (Ok texts) modules e = ap (λ answer. answer >>= λ modules. as_linked (linked modules)) e
  linked_by (Err refusal) modules e = cc e

pub assembled_files_link : AssembledFilesLink
assembled_files_link files names modules input are =
    sym (ap files_report (linked_by files (read_files files names) modules (all_modules files names modules 0 are)))
