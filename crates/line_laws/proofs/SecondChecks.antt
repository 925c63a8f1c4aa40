-- Lines that are known by themselves pass the second checks.
use Rattle.std.proofs.Common.{◌≡◌, ℕ, ◌+◌, ◌*◌, inl, inr, Bool, true, false, List, [], ◌∷◌, ◌++◌, append_assoc, Some}
use Rattle.std.proofs.Common.{None, Ok, Err, length, length-append, refl, sym, ap, subst, ◌∙◌, arith}
use Rattle.std.specs.Prelude.{Option, Result, ◌||◌, is_some, nat_lt, if◌then◌else◌}
use Rattle.std.specs.Option.{unwrap_or}
use Rattle.std.proofs.lemmas.Bool.Decides.{nat_tests}
use Rattle.std.proofs.lemmas.List.{append-nil}
use Rattle.source_defs.specs.Refusals.{Refusal, ◌>>=◌, at_line}
use Rattle.expression_defs.specs.Symbols.{Names, look_up}
use Rattle.expression_defs.specs.Expression.{Value}
use Rattle.expression_defs.specs.Layout.{assembled_lines}
use Rattle.object_defs.specs.declared.spot.Spot.{Spot}
use Rattle.asm_defs.specs.declared.causes.AsmCause.{AsmCause}
use Rattle.asm_defs.specs.declared.causes.AsmCause.TheVariants.{Overflow, Overlap}
use Rattle.asm_defs.specs.declared.location.Part.{Part}
use Rattle.asm_defs.specs.declared.location.Part.TheVariants as part
use Rattle.asm_defs.specs.Locations.{Line, location}
use Rattle.asm_defs.specs.FirstChecks.{line_of, Checked}
use Rattle.asm_defs.specs.SecondChecks.{Outcome, Bytes, Entry, outcome}
use Rattle.asm_defs.specs.Memory.{AssembledLine, is_placed, any_from, bytes_in, word_count, overlaps}
use Rattle.asm_defs.specs.Modules.{assembled_line, assembled_at, with_room, entry, entry_by}
use Rattle.line_laws.specs.KnownLines.{KnownLine, known_line, known_lines, are_plain, is_plain, is_plain_statement}
use Rattle.line_laws.specs.KnownLines.{outcome_words, line_words, all_words, are_close, is_at}
use Rattle.source_defs.specs.OperandLists.{is_empty}
use Rattle.line_laws.proofs.LayoutLines.{layout_list, location_more, parts_of, first_of, First}
use Rattle.line_laws.proofs.PlacedWords.{HoldWords, ComesNext, hold_more, few_words, any_none, place_is, size, IsAt}
use Rattle.line_laws.proofs.Small.{both}

abbrev pub as_assembled : KnownLine → AssembledLine
as_assembled line = record { at = line.at; outcome = line.outcome }

-- the outcomes of lines after others
abbrev pub assembled_list : List AssembledLine → List KnownLine → List AssembledLine
assembled_list earlier [] = earlier
assembled_list earlier (line ∷ lines) = assembled_list (as_assembled line ∷ earlier) lines

pub room_by : (line : AssembledLine) (full overlap : Bool) → full ≡ false → overlap ≡ false → (if full then Err Overflow else if overlap then Err Overlap else Ok line) ≡ Ok line
room_by line full overlap a b = rw (a, b) refl

-- a line whose words come next has room
module _ (earlier : List AssembledLine) (line : AssembledLine) (from : ℕ) (words more : List ℕ) (hold : HoldWords [] earlier from words) (next : ComesNext line (from + 2 * length words) more) where
  overlaps_none : IsAt line.at (from + 2 * length words) more → overlaps earlier line ≡ false
  overlaps_none (inl none) =
      let empty : bytes_in line.outcome ≡ 0 = omega (arith, size line (from + 2 * length words) more next, none) in
      ap (any_from (is_placed earlier line.at.part) line.at.number) empty
  overlaps_none (inr there) =
      ap (λ (found : Part). any_from (is_placed earlier found) line.at.number (bytes_in line.outcome)) there.0
      ∙ any_none (is_placed earlier part.Absolute) line.at.number (bytes_in line.outcome) (λ p le lt. hold.free p (omega (arith, le, there.1)))

  pub has_room : with_room earlier line ≡ Ok line
  has_room =
      let after = hold_more line (from + 2 * length words) more next [] earlier from words refl hold in
      let few = few_words (line ∷ earlier) after.none in
      let fits : nat_lt 32768 (word_count (line ∷ earlier)) ≡ false = grind (arith, nat_tests, few) in
      room_by line _ _ fits (overlaps_none (place_is line (from + 2 * length words) more next))

known_words : (found : Option (List ℕ)) → is_some found ≡ true → found ≡ Some (unwrap_or found [])
known_words (Some words) e = refl
known_words None e = cc e

kept_entry : (before : Option Spot) (found : Outcome) → is_some (outcome_words found) ≡ true → entry_by before found ≡ before
kept_entry before (Bytes bytes) e = cc e
kept_entry before (Entry spot) e = cc e
kept_entry before _ e = refl

pub assembled_step : (known : Names) (before : List Line) (earlier : List AssembledLine) (number : ℕ) (found : Checked) (line : AssembledLine) (answer : Result (List AssembledLine) (Refusal AsmCause))
    → answer ≡ Ok earlier → assembled_line known before earlier (line_of number found) ≡ Ok line
    → (answer >>= λ earlier. at_line number (assembled_line known before earlier (line_of number found)) >>= λ found. Ok (found ∷ earlier)) ≡ Ok (line ∷ earlier)
assembled_step known before earlier number found line answer is e = rw is (rw e refl)

module _ (look : List ℕ → Option Value) (known : Names) (same : look ≡ look_up known) (from : ℕ) where
  -- a line after others
  pub assemble_is : (text : List ℕ) (line : KnownLine) (before : List Line) (number : ℕ) (earlier : List AssembledLine) → known_line look (location before) text ≡ Ok line
      → with_room earlier (as_assembled line) ≡ Ok (as_assembled line) → assembled_line known before earlier (line_of number line.found) ≡ Ok (as_assembled line)
  assemble_is text line before number earlier e room =
      let p = parts_of look (location before) text line e in
      let comes : outcome (look_up known) line.at line.found.statement ≡ Ok line.outcome =
      subst (λ look. outcome look line.at line.found.statement ≡ Ok line.outcome) same p.comes in
      subst (λ at. assembled_at known at line.found.statement earlier ≡ Ok (as_assembled line)) p.place_is
      (ap (λ answer. answer >>= λ found. with_room earlier (record { at = line.at; outcome = found })) comes ∙ room)

  pub record AreAssembled (lines : List KnownLine) (before : List Line) (number : ℕ) (earlier : List AssembledLine) (words : List ℕ) : Type 0 where
    pub assembled_lines : assembled_lines (assembled_line known) (layout_list before number lines) ≡ Ok (assembled_list earlier lines)
    pub hold : HoldWords [] (assembled_list earlier lines) from (words ++ all_words lines)
    pub entry : entry (assembled_list earlier lines) ≡ entry earlier

  abbrev AssemblesAll : List (List ℕ) → List KnownLine → Type 0
  AssemblesAll texts lines =
      (before : List Line) (number : ℕ) (earlier : List AssembledLine) (words : List ℕ) → known_lines look (location before) texts ≡ Ok lines
      → are_plain lines ≡ true → are_close (from + 2 * length words) lines ≡ true → assembled_lines (assembled_line known) before ≡ Ok earlier
      → HoldWords [] earlier from words → AreAssembled lines before number earlier words

  module _ (text : List ℕ) (texts : List (List ℕ)) (line : KnownLine) (others : List KnownLine) (assembles : AssemblesAll texts others) (before : List Line) (number : ℕ) (earlier : List AssembledLine) (words : List ℕ) where
    first_assembled : First look (location before) text texts line others → are_plain (line ∷ others) ≡ true
        → are_close (from + 2 * length words) (line ∷ others) ≡ true → assembled_lines (assembled_line known) before ≡ Ok earlier
        → HoldWords [] earlier from words → AreAssembled (line ∷ others) before number earlier words
    first_assembled first plain close is hold =
        let fair = both (is_plain line) (are_plain others) plain in
        let near = both (is_empty (line_words line) || is_at (from + 2 * length words) line.at) _ close in
        let some = (both (is_plain_statement line.found.statement) _ fair.0).1 in
        let next : ComesNext (as_assembled line) (from + 2 * length words) (line_words line) = record { words = known_words (outcome_words line.outcome) some; place = near.0 } in
        let room = has_room earlier (as_assembled line) from words (line_words line) hold next in
        let after = hold_more (as_assembled line) (from + 2 * length words) (line_words line) next [] earlier from words refl hold in
        let there = location_more before number line.found in
        let total : from + 2 * length words + 2 * length (line_words line) ≡ from + 2 * length (words ++ line_words line) = omega (arith, length-append words (line_words line)) in
        let now = assembled_step known before earlier number line.found (as_assembled line) (assembled_lines (assembled_line known) before) is
        (assemble_is text line before number earlier first.is room) in
        let rest = assembles (line_of number line.found ∷ before) (number + 1) (as_assembled line ∷ earlier) (words ++ line_words line)
        (ap (λ at. known_lines look at texts) there ∙ first.others) fair.1 (ap (λ n. are_close n others) (sym total) ∙ near.1) now after in
        record {
          assembled_lines = rest.assembled_lines;
          hold = subst (λ words. HoldWords [] (assembled_list (as_assembled line ∷ earlier) others) from words) (append_assoc words (line_words line) (all_words others)) rest.hold;
          entry = rest.entry ∙ kept_entry (entry earlier) line.outcome some;
        }

  append_none : (items : List ℕ) → items ≡ items ++ []
  append_none items = sym (append-nil items)

  pub are_assembled : (texts : List (List ℕ)) (lines : List KnownLine) → AssemblesAll texts lines
  are_assembled [] lines before number earlier words e plain close is hold =
      let none : ◌≡◌ {A = List KnownLine} [] lines = cc e in
      subst (λ lines. AreAssembled lines before number earlier words) none
      (record { assembled_lines = is; hold = subst (HoldWords [] earlier from) (append_none words) hold; entry = refl })
  are_assembled (text ∷ texts) lines before number earlier words e plain close is hold =
      let f = first_of look (location before) text texts lines e in
      subst (λ lines. AreAssembled lines before number earlier words) (sym f.2)
      (first_assembled text texts f.0 f.1 (are_assembled texts f.1) before number earlier words f.3
      (subst (λ lines. are_plain lines ≡ true) f.2 plain) (subst (λ lines. are_close (from + 2 * length words) lines ≡ true) f.2 close) is hold)
