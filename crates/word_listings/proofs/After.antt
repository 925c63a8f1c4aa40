-- Lines after others: where they stand, what they hold, where one is refused; and those of words, to the last line.
use Rattle.std.proofs.Common.{◌≡◌, ℕ, ◌+◌, ◌*◌, ◌≤◌, Bool, true, false, List, [], ◌∷◌, ◌++◌, zero, suc, ◌%◌}
use Rattle.std.proofs.Common.{length, refl, ap, ◌∙◌, Ok, Some, None, arith}
use Rattle.std.specs.Option.{option_map}
use Rattle.std.specs.Prelude.{Result, Err, ◌||◌, map, max, nat_le, Option, if◌then◌else◌}
use Rattle.std.proofs.lemmas.Bool.Decides.{nat_tests}
use Rattle.source_defs.specs.Refusals.{Refusal, ◌>>=◌}
use Rattle.source_defs.specs.ListedLines.{listed}
use Rattle.expression_defs.specs.Expression.{Absolute}
use Rattle.expression_defs.specs.Symbols.{predefined}
use Rattle.source_defs.specs.Lines.{numbered}
use Rattle.expression_defs.specs.Layout.{layout_after, assembled_lines}
use Rattle.object_defs.specs.Digits.{padded}
use Rattle.object_defs.specs.Modules.{Module}
use Rattle.asm_defs.specs.declared.causes.AsmCause.{AsmCause}
use Rattle.asm_defs.specs.declared.location.Location.{Location}
use Rattle.asm_defs.specs.declared.location.Part.{Part}
use Rattle.asm_defs.specs.declared.location.Part.TheVariants as part
use Rattle.asm_defs.specs.Statements.{statement_in}
use Rattle.asm_defs.specs.Locations.{Line, location, place, reached, relocatable, after, value_of}
use Rattle.asm_defs.specs.FirstChecks.{EarlierLines, Checked, parsed, moved, checked, check, known_of, line_of, names, refs, defs}
use Rattle.asm_defs.specs.SecondChecks.{Outcome, Words}
use Rattle.asm_defs.specs.Memory.{AssembledLine}
use Rattle.asm_defs.specs.Modules.{assembled_line, assembled_at, with_room, module_by, title, entry}
use Rattle.line_laws.specs.KnownLines.{numbers_of, is_at}
use Rattle.source_defs.specs.OperandLists.{is_empty}
use Rattle.line_laws.proofs.PlacedWords.{HoldWords, ComesNext, hold_more}
use Rattle.line_laws.proofs.SecondChecks.{has_room}
use Rattle.line_laws.proofs.Small.{chosen}
use Rattle.word_listings.proofs.LineBacks.{absolute_at, LineBack, Counts, come_unless, words_back}
use Rattle.std.proofs.Common.{length-append, append_assoc, append-nil, take-append-drop, length-take-le, length-drop, get_or-drop, take, drop, sym, subst}
use Rattle.tms_defs.specs.Instructions.{instr_at}
use Rattle.instruction_defs.specs.declared.causes.FormError.TheVariants.{JumpTooFar}
use Rattle.instruction_defs.specs.Printed.{printed}
use Rattle.asm_defs.specs.declared.causes.AsmCause.TheVariants.{Form}
use Rattle.word_listings.specs.Modules.{wraps, wrapping_from, unless_far}
use Rattle.word_listings.proofs.Instructions.{AreWords}

-- lines after which the location is an absolute place, and which say nothing else
pub record IsAt (before : List Line) (at : ℕ) : Type 0 where
  pub names_are : names before ≡ predefined
  pub location_is : location before ≡ absolute_at at
  pub refs_are : refs before ≡ []
  pub defs_are : defs before ≡ []
  pub reached_is : reached before ≡ 0
  pub title_is : title before ≡ padded 8 []

pub same_place : (m n : ℕ) → m ≡ n → absolute_at m ≡ absolute_at n
same_place m n e = ap absolute_at e

-- a line that is accepted after others
pub record Taken (before : List Line) (number : ℕ) (text : List ℕ) (at next : ℕ) (last : Bool) (answer : Result Outcome AsmCause) : Type 0 where
  pub line : Line
  pub check_is : check before number (listed text) ≡ Ok line
  pub last_is : line.last ≡ last
  pub number_is : line.number ≡ number
  pub after_these : IsAt (line ∷ before) next
  pub assemble_is : (earlier : List AssembledLine) → assembled_line predefined before earlier line
      ≡ (answer >>= λ found. with_room earlier (record { at = absolute_at at; outcome = found }))

-- a line by itself is accepted after others
module _ (at : ℕ) (text : List ℕ) (size : ℕ) (last : Bool) (answer : Result Outcome AsmCause) (back : LineBack at text size last answer) (fits : at + size ≤ 65536) where
  abbrev found : Checked
  found = record { label = None; statement = back.statement; move = record { origin = None; gap = 0; size = size; label = value_of (after (absolute_at at) 0) } }

  in_part : nat_le (at + (0 + size)) 65536 ≡ true
  in_part = grind (arith, nat_tests, fits)

  accepted : (before : EarlierLines) → before.location ≡ absolute_at at → checked before (listed text) ≡ Ok found
  unfolding parsed moved statement_in
  accepted before there =
      rw (back.cut.fields_are, back.cut.name_is, back.cut.field_is, back.parses, back.own.refs)
      (rw (there, back.own.moves before.names before.reached, back.own.few before, back.own.good before, in_part) refl)

  module _ (before : List Line) (after_these : IsAt before at) (number : ℕ) where
    abbrev line : Line
    line = line_of number found

    location_next : location (line ∷ before) ≡ absolute_at (at + size)
    location_next =
        let n : ℕ = (location before).number in
        let e : (location before).number ≡ at = ap (λ (l : Location). l.number) after_these.location_is in
        let p : (location before).part ≡ part.Absolute = ap (λ (l : Location). l.part) after_these.location_is in
        here_by (location before).part _ _ p (omega (arith, e))
      where
        here_by : (found : Part) (m n : ℕ) → found ≡ part.Absolute → m ≡ n → ◌≡◌ {A = Location} (record { part = found; number = m }) (absolute_at n)
        here_by found m n p e = rw (p, e) refl

    place_is : place before line ≡ absolute_at at
    place_is = ap (λ here. after here 0) after_these.location_is ∙ same_place (at + 0) at (omega arith)

    with_no_names : (before : List Line) → names before ≡ predefined → names (line_of number found ∷ before) ≡ predefined
    with_no_names before e = rw back.own.refs e

    pub taken : Taken before number text at (at + size) last answer
    taken = record {
      line = line;
      check_is = ap (λ answer. answer >>= λ found. Ok (line_of number found)) (accepted (known_of before) after_these.location_is);
      last_is = back.own.last_is;
      number_is = refl;
      after_these = record {
        names_are = with_no_names before after_these.names_are;
        location_is = location_next;
        refs_are = rw (after_these.refs_are, back.own.refs) refl;
        defs_are = rw (after_these.defs_are, back.own.defs) refl;
        reached_is = ap (λ here. max (reached before) (relocatable here)) location_next ∙ ap (λ n. max n 0) after_these.reached_is;
        title_is = back.own.title_kept (title before) ∙ after_these.title_is;
      };
      assemble_is = λ earlier.
          ap (λ place. assembled_at predefined place back.statement earlier) place_is
          ∙ ap (λ answer. answer >>= λ found. with_room earlier (record { at = absolute_at at; outcome = found })) back.comes;
    }

-- ---- outcomes of the lines

pub record Holds (before : List Line) (earlier : List AssembledLine) (from : ℕ) (words : List ℕ) : Type 0 where
  pub assembled_are : assembled_lines (assembled_line predefined) before ≡ Ok earlier
  pub hold : HoldWords [] earlier from words
  pub entry_is : entry earlier ≡ None

abbrev pub Fails : List Line → Refusal AsmCause → Type 0
Fails before refusal = assembled_lines (assembled_line predefined) before ≡ Err refusal

pub fails_still : (line : Line) (before : List Line) (refusal : Refusal AsmCause) → Fails before refusal → Fails (line ∷ before) refusal
fails_still line before refusal e = rw e refl

-- the outcomes of lines: words one after the other from a place on, or a refusal
abbrev pub Comes : List Line → ℕ → Result (List ℕ) (Refusal AsmCause) → Type 0
Comes before from (Ok words) = (earlier : List AssembledLine) × Holds before earlier from words
Comes before from (Err refusal) = Fails before refusal

-- lines after others, to the last
pub record Ends (before : List Line) (number : ℕ) (texts : List (List ℕ)) (answer : Result Module (Refusal AsmCause)) : Type 0 where
  pub all : List Line
  pub layout_is : layout_after check before (numbered number (map listed texts)) ≡ Ok all
  pub names_are : names all ≡ predefined
  pub module_is : (assembled_lines (assembled_line predefined) all >>= λ found. Ok (module_by all found)) ≡ answer

pub ends_last : (before : List Line) (number : ℕ) (text : List ℕ) (at next : ℕ) (come : Result Outcome AsmCause) (answer : Result Module (Refusal AsmCause))
    (taken : Taken before number text at next true come)
    → (assembled_lines (assembled_line predefined) (taken.line ∷ before) >>= λ found. Ok (module_by (taken.line ∷ before) found)) ≡ answer
    → Ends before number (text ∷ []) answer
ends_last before number text at next come answer taken is = record {
  all = taken.line ∷ before;
  layout_is = rw (taken.check_is, taken.last_is) refl;
  names_are = taken.after_these.names_are;
  module_is = is;
}

pub ends_more : (before : List Line) (number : ℕ) (text : List ℕ) (texts : List (List ℕ)) (at next : ℕ) (come : Result Outcome AsmCause) (answer : Result Module (Refusal AsmCause))
    (taken : Taken before number text at next false come) → Ends (taken.line ∷ before) (number + 1) texts answer → Ends before number (text ∷ texts) answer
ends_more before number text texts at next come answer taken ends = record {
  all = ends.all;
  layout_is =
      rw taken.check_is
      (chosen taken.line.last false (Ok (taken.line ∷ before))
      (layout_after check (taken.line ∷ before) (numbered (number + 1) (map listed texts))) taken.last_is
      ∙ ends.layout_is);
  names_are = ends.names_are;
  module_is = ends.module_is;
}

-- a line that is refused
pub fails_now : (before : List Line) (number : ℕ) (text : List ℕ) (at next : ℕ) (last : Bool) (cause : AsmCause) (earlier : List AssembledLine)
    (taken : Taken before number text at next last (Err cause)) → assembled_lines (assembled_line predefined) before ≡ Ok earlier
    → Fails (taken.line ∷ before) (record { line = number; cause = cause })
fails_now before number text at next last cause earlier taken is =
    rw (is, taken.assemble_is earlier) (ap (λ number. Err (record { line = number; cause = cause })) taken.number_is)

-- a line that places something
pub assembles_now : (before : List Line) (number : ℕ) (text : List ℕ) (at next : ℕ) (last : Bool) (found : Outcome) (earlier : List AssembledLine)
    (taken : Taken before number text at next last (Ok found)) → assembled_lines (assembled_line predefined) before ≡ Ok earlier
    → with_room earlier (record { at = absolute_at at; outcome = found }) ≡ Ok (record { at = absolute_at at; outcome = found })
    → assembled_lines (assembled_line predefined) (taken.line ∷ before) ≡ Ok (record { at = absolute_at at; outcome = found } ∷ earlier)
assembles_now before number text at next last found earlier taken is room = rw (is, taken.assemble_is earlier, room) refl

numbers_back : (words : List ℕ) → numbers_of (map Absolute words) ≡ Some words
numbers_back [] = refl
numbers_back (word ∷ words) = ap (option_map (λ numbers. word ∷ numbers)) (numbers_back words)

-- a line of words that come next
pub holds_next : (before : List Line) (number : ℕ) (text : List ℕ) (at next : ℕ) (more : List ℕ) (earlier : List AssembledLine) (from : ℕ) (words : List ℕ)
    (taken : Taken before number text at next false (Ok (Words (map Absolute more)))) → Holds before earlier from words → at ≡ from + 2 * length words
    → Holds (taken.line ∷ before) (record { at = absolute_at at; outcome = Words (map Absolute more) } ∷ earlier) from (words ++ more)
holds_next before number text at next more earlier from words taken holds there =
    let line : AssembledLine = record { at = absolute_at at; outcome = Words (map Absolute more) } in
    let comes : ComesNext line (from + 2 * length words) more = record { words = numbers_back more; place = here_next more } in
    record {
      assembled_are = assembles_now before number text at next false (Words (map Absolute more)) earlier taken holds.assembled_are
          (has_room earlier line from words more holds.hold comes);
      hold = hold_more line (from + 2 * length words) more comes [] earlier from words refl holds.hold;
      entry_is = holds.entry_is;
    }
  where
    here_next : (more : List ℕ) → (is_empty more || is_at (from + 2 * length words) (absolute_at at)) ≡ true
    here_next [] = refl
    here_next (word ∷ more) = grind (arith, nat_tests, there)

-- ---- The lines of words, from any place to the last line

-- what the lines of words say
abbrev pub texts_from : ℕ → ℕ → List ℕ → List (List ℕ)
texts_from zero at words = []
texts_from (suc most) at [] = []
texts_from (suc most) at words =
    let front = printed words at in front.text ∷ texts_from most (at + 2 * front.count) (drop front.count words)

pub drop_words : (count : ℕ) (words : List ℕ) → AreWords words → AreWords (drop count words)
drop_words count words are k = rw (get_or-drop count words k 0) (are (count + k))

module _ (from : ℕ) (total : List ℕ) (tails : List (List ℕ)) (whole : Module) (end : ℕ) (below : end ≤ 65536) where
  -- the last lines, after all words or where a line before is refused
  abbrev pub Closes : Type 0
  Closes =
      (before : List Line) (number : ℕ) → IsAt before end →
      ((earlier : List AssembledLine) → Holds before earlier from total → Ends before number tails (Ok whole))
      × ((refusal : Refusal AsmCause) → Fails before refusal → Ends before number tails (Err refusal))

  -- words and those that are left are all of them, and these begin at a place
  abbrev AreAll : Result (List ℕ) (Refusal AsmCause) → List ℕ → ℕ → Type 0
  AreAll (Ok words) rest place = (from + 2 * length words ≡ place) × (words ++ rest ≡ total)
  AreAll (Err refusal) rest place = Unit {0}

  abbrev finish : Result (List ℕ) (Refusal AsmCause) → Option ℕ → Result Module (Refusal AsmCause)
  finish (Ok words) far = unless_far far whole
  finish (Err refusal) far = Err refusal

  module _ (closes : Closes) where
    abbrev GoesFrom : ℕ → Type 0
    GoesFrom most =
        (words : List ℕ) (at number : ℕ) (before : List Line) (come : Result (List ℕ) (Refusal AsmCause)) → length words ≤ most →
        at % 2 ≡ 0 → at + 2 * length words ≡ end → AreWords words → IsAt before at → Comes before from come → AreAll come words at →
        Ends before number (texts_from most at words ++ tails) (finish come (wrapping_from most number at words))

    module _ (most word : ℕ) (words : List ℕ) (others : GoesFrom most) (at number : ℕ) (before : List Line) (few : length words ≤ most) (even : at % 2 ≡ 0)
        (size : at + 2 * length (word ∷ words) ≡ end) (are : AreWords (word ∷ words)) (after_these : IsAt before at) where
      abbrev count : ℕ
      count = (printed (word ∷ words) at).count

      abbrev text : List ℕ
      text = (printed (word ∷ words) at).text

      abbrev rest : List ℕ
      rest = drop count (word ∷ words)

      abbrev later : Option ℕ
      later = wrapping_from most (number + 1) (at + 2 * count) rest

      go_on : {answer : Result Outcome AsmCause} (line : Taken before number text at (at + 2 * count) false answer)
          (come : Result (List ℕ) (Refusal AsmCause)) → Counts (word ∷ words) text count → Comes (line.line ∷ before) from come →
          AreAll come rest (at + 2 * count) →
          Ends before number (text ∷ (texts_from most (at + 2 * count) rest ++ tails)) (finish come later)
      go_on line come counts comes all =
          let some = counts.some in
          let within = counts.within in
          let left = length-drop count (word ∷ words) in
          ends_more before number _ _ _ _ _ _ line
          (others rest (at + 2 * count) (number + 1) (line.line ∷ before) come (omega (arith, left, few, some)) (omega (arith, even))
          (omega (arith, size, left, within)) (drop_words count (word ∷ words) are) line.after_these comes all)

      goes_by : (far : Bool) → LineBack at text (2 * count) false (come_unless far (take count (word ∷ words))) →
          Counts (word ∷ words) text count → (come : Result (List ℕ) (Refusal AsmCause)) → Comes before from come →
          AreAll come (word ∷ words) at →
          Ends before number (text ∷ (texts_from most (at + 2 * count) rest ++ tails)) (finish come (if far then Some number else later))
      goes_by far back counts (Err refusal) comes all =
          let within = counts.within in
          let line = taken at text (2 * count) false _ back (omega (arith, size, below, within)) before after_these number in
          go_on line (Err refusal) counts (fails_still line.line before refusal comes) tt
      goes_by true back counts (Ok held) comes all =
          let within = counts.within in
          let line = taken at text (2 * count) false _ back (omega (arith, size, below, within)) before after_these number in
          go_on line (Err (record { line = number; cause = Form JumpTooFar })) counts
          (fails_now before number text at (at + 2 * count) false (Form JumpTooFar) comes.0 line comes.1.assembled_are) tt
      goes_by false back counts (Ok held) comes all =
          let within = counts.within in
          let line = taken at text (2 * count) false _ back (omega (arith, size, below, within)) before after_these number in
          let more : List ℕ = take count (word ∷ words) in
          let long : length (held ++ take count (word ∷ words)) ≡ length held + count =
          length-append held (take count (word ∷ words)) ∙ ap (λ n. length held + n) (length-take-le count (word ∷ words) within) in
          let there = all.0 in
          go_on line (Ok (held ++ take count (word ∷ words))) counts
          (_, holds_next before number text at (at + 2 * count) (take count (word ∷ words)) comes.0 from held line comes.1 (sym there)) (
            omega (arith, long, there),
            append_assoc held (take count (word ∷ words)) (drop count (word ∷ words))
                ∙ (ap (λ rest. held ++ rest) (take-append-drop count (word ∷ words)) ∙ all.1),
          )

    no_more : (at number : ℕ) (before : List Line) (come : Result (List ℕ) (Refusal AsmCause)) → at + 2 * 0 ≡ end → IsAt before at → Comes before from come →
        AreAll come [] at → Ends before number tails (finish come None)
    no_more at number before (Err refusal) size after_these comes all =
        (closes before number (subst (IsAt before) (omega (arith, size)) after_these)).1 refusal comes
    no_more at number before (Ok held) size after_these comes all =
        let same : held ≡ total = sym (append-nil held) ∙ all.1 in
        (closes before number (subst (IsAt before) (omega (arith, size)) after_these)).0 comes.0 (subst (Holds before comes.0 from) same comes.1)

    pub goes_from : (most : ℕ) → GoesFrom most
    goes_from zero (word ∷ words) at number before come few even size are after_these comes all = absurd (omega (arith, few))
    goes_from (suc most) (word ∷ words) at number before come few even size are after_these comes all =
        let back = words_back at (omega (arith, size, below)) even word words are in
        goes_by most word words (goes_from most) at number before (omega (arith, few)) even size are after_these
        (wraps at (instr_at word)) back.0 back.1 come comes all
    goes_from _ _ at number before come few even size are after_these comes all = no_more at number before come size after_these comes all
