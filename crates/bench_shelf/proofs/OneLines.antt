-- Copied lines hold no line feeds.
use Rattle.std.proofs.Common.{◌≡◌, ℕ, zero, suc, ◌+◌, ◌-◌, ◌<◌, Bool, true, false, List, [], ◌∷◌, ◌++◌, Some, None, length, get_or, drop, length-take, refl, ap}
use Rattle.std.proofs.Common.{◌∙◌, arith}
use Rattle.std.proofs.lemmas.List.{get_or-take, get_or-drop}
use Rattle.std.specs.Prelude.{Option, Ok, map, nat_lt, nat_le}
use Rattle.std.specs.Option.{ok_or}
use Rattle.std.specs.List.{AllByRecursion}
use Rattle.source_defs.specs.declared.text.Line.{Line as TextLine}
use Rattle.source_defs.specs.Characters.{is_line_feed}
use Rattle.source_defs.specs.Lines.{part, lines, line_texts}
use Rattle.source_defs.specs.LineLaw.{IsLine}
use Rattle.source_defs.proofs.LineLaws.{lines_are_lines}
use Rattle.source_defs.specs.EndedLines.{IsOneLine}
use Rattle.shelf_defs.specs.CopyLines.{LineKind, Itself, File, Bad, asked}
use Rattle.shelf_defs.specs.Files.{Contents}
use Rattle.shelf_defs.specs.Copied.{Place, copy_line, copied_by, PlacedLine, Ending, Open, Ended, Refused, Copied, then_by, lines_in, asked_line, At, TooMany}
use Rattle.shelf_defs.specs.Copied.{Missing, TooLarge, either, refused, most_bytes, most_copies}
use Rattle.bench_shelf.proofs.FileLaws.{copied_file}
use Rattle.source_defs.specs.Refusals.{◌>>=◌, unless}
use Rattle.shelf_defs.specs.Assembly.{texts}

-- each of some lines holds none
abbrev AreOneLines : List PlacedLine → Type 0
AreOneLines lines = AllByRecursion (λ line. IsOneLine line.text) lines

abbrev AreOneTexts : List (ℕ × List ℕ) → Type 0
AreOneTexts lines = AllByRecursion (λ line. IsOneLine line.1) lines

one_by : (bytes : List ℕ) → ((k : ℕ) → k < length bytes → is_line_feed (get_or bytes k 0) ≡ false) → IsOneLine bytes
one_by [] none = refl
one_by (byte ∷ bytes) none =
    let others = one_by bytes (λ k lt. none (suc k) (omega (arith, lt))) in
    rw (none 0 (omega arith), others) refl

part_one : (text : List ℕ) (line : TextLine) → IsLine text line → IsOneLine (part text line.span)
part_one text line is =
    let start = line.span.start in
    let count = line.span.end - line.span.start in
    one_by (part text line.span) (λ k lt.
    let size : k < count = omega (arith, lt, length-take count (drop start text)) in
    ap is_line_feed (get_or-take count (drop start text) k 0 size ∙ get_or-drop start text k 0)
    ∙ is.no_feed (start + k) (omega arith) (omega (arith, size)))

parts_one : (text : List ℕ) (found : List TextLine) → AllByRecursion (IsLine text) found
    → AreOneTexts (map (λ line. (line.number, part text line.span)) found)
parts_one text [] each = tt
parts_one text (line ∷ found) each = (part_one text line each.0, parts_one text found each.1)

texts_one : (text : List ℕ) → AreOneTexts (line_texts text)
texts_one text = parts_one text (lines text) (lines_are_lines text).each

both_one : (first others : List PlacedLine) → AreOneLines first → AreOneLines others → AreOneLines (first ++ others)
both_one [] others all more = more
both_one (line ∷ first) others all more = (all.0, both_one first others all.1 more)

then_one : (ending : Ending) (found : Copied) (next : ℕ → Copied) → AreOneLines found.lines → ((copies : ℕ) → AreOneLines (next copies).lines)
    → AreOneLines (then_by ending found next).lines
then_one Open found next all more = both_one found.lines (next found.copies).lines all (more found.copies)
then_one Ended found next all more = all
then_one (Refused refusal) found next all more = all

abbrev IsOneCopy : (Place → ℕ → List ℕ → Copied) → Type 0
IsOneCopy copy = (place : Place) (copies : ℕ) (name : List ℕ) → AreOneLines (copy place copies name).lines

module _ (copy : Place → ℕ → List ℕ → Copied) (each : IsOneCopy copy) where
  asked_one : (request : LineKind) (place : Place) (copies : ℕ) (text : List ℕ) → IsOneLine text → AreOneLines (asked_line copy request place copies text).lines
  asked_one Itself place copies text one = (one, tt)
  asked_one (File name) place copies text one = each place copies name
  asked_one Bad place copies text one = tt

  lines_one : (file : Option (List ℕ)) (copies : ℕ) (lines : List (ℕ × List ℕ)) → AreOneTexts lines → AreOneLines (lines_in copy file copies lines).lines
  lines_one file copies [] all = tt
  lines_one file copies (line ∷ lines) all =
      let first = asked_line copy (asked line.1) (record { file = file; line = line.0 }) copies line.1 in
      then_one first.ending first (λ copies. lines_in copy file copies lines)
      (asked_one (asked line.1) (record { file = file; line = line.0 }) copies line.1 all.0)
      (λ copies. lines_one file copies lines all.1)

module _ (contents : Contents) where
  file_one : (copy : Place → ℕ → List ℕ → Copied) → IsOneCopy copy → (place : Place) (copies : ℕ) (name : List ℕ) (found : Option (List ℕ))
      → AreOneLines (copied_file copy place copies name found).lines
  file_one copy each place copies name None = tt
  file_one copy each place copies name (Some bytes) = by (nat_lt most_bytes (length bytes))
    where
      by : (large : Bool) → AreOneLines (either (do
        bytes ← unless large (refused (copies + 1) TooLarge) bytes
        Ok (lines_in copy (Some name) (copies + 1) (line_texts bytes)))).lines
      by true = tt
      by false = lines_one copy each (Some name) (copies + 1) (line_texts bytes) (texts_one bytes)

  many_one : (copy : Place → ℕ → List ℕ → Copied) → IsOneCopy copy → (place : Place) (copies : ℕ) (name : List ℕ) (many : Bool)
      → AreOneLines (either (do
        name ← unless many (refused copies (At place TooMany)) name
        bytes ← ok_or (contents copies name) (refused (copies + 1) (At place (Missing name)))
        bytes ← unless (nat_lt most_bytes (length bytes)) (refused (copies + 1) TooLarge) bytes
        Ok (lines_in copy (Some name) (copies + 1) (line_texts bytes)))).lines
  many_one copy each place copies name true = tt
  many_one copy each place copies name false = file_one copy each place copies name (contents copies name)

  copy_one : (levels : ℕ) → IsOneCopy (copy_line contents levels)
  copy_one zero place copies name = tt
  copy_one (suc levels) place copies name =
      many_one (copy_line contents levels) (copy_one levels) place copies name (nat_le most_copies copies)

seen_one : (lines : List PlacedLine) → AreOneLines lines → AllByRecursion IsOneLine (texts lines)
seen_one [] all = tt
seen_one (line ∷ lines) all = (all.0, seen_one lines all.1)

pub copied_one : (contents : Contents) (source : List ℕ) → AllByRecursion IsOneLine (texts (copied_by contents source).lines)
copied_one contents source =
    seen_one (copied_by contents source).lines
    (lines_one (copy_line contents 4) (copy_one contents 4) None 0 (line_texts source) (texts_one source))
