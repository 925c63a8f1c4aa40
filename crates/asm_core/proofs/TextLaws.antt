-- The module of a source has a text.
use Rattle.std.proofs.Common.{◌≡◌, ℕ, zero, suc, ◌+◌, ◌*◌, ◌%◌, ◌≤◌, Bool, true, false, ◌||◌, List, [], ◌∷◌, ◌++◌, Some, None, Ok, Err, length, refl, ap, subst}
use Rattle.std.proofs.Common.{◌∙◌, arith, length-append}
use Rattle.std.specs.Prelude.{Option, Result, map, is_some, nat_lt, if◌then◌else◌}
use Rattle.std.specs.List.{AllByRecursion}
use Rattle.std.proofs.lemmas.Bool.Decides.{nat_tests}
use Rattle.std.proofs.lemmas.List.{length-map}
use Rattle.source_defs.specs.Refusals.{at_line}
use Rattle.expression_defs.specs.Symbols.{Names, look_up}
use Rattle.expression_defs.specs.Expression.{Value, Absolute, Relocatable, External}
use Rattle.expression_defs.specs.Layout.{line_layout, layout_after, assembled_lines}
use Rattle.object_defs.specs.declared.spot.Spot.{Spot}
use Rattle.object_defs.specs.declared.spot.Piece.{Piece}
use Rattle.object_defs.specs.Modules.{Module, Definition, Reference, HasText, IsAtEvenPlace, number_of}
use Rattle.asm_defs.specs.declared.causes.AsmCause.{AsmCause}
use Rattle.asm_defs.specs.declared.causes.AsmCause.TheVariants.{Overflow, Overlap}
use Rattle.asm_defs.specs.declared.content.Content.{Content}
use Rattle.asm_defs.specs.declared.content.Content.TheVariants.{Second}
use Rattle.asm_defs.specs.declared.location.Part.{Part}
use Rattle.asm_defs.specs.declared.location.Part.TheVariants as part
use Rattle.asm_defs.specs.declared.location.Location.{Location}
use Rattle.asm_defs.specs.Statements.{Statement, Def, Ref}
use Rattle.asm_defs.specs.Locations.{Line, place}
use Rattle.asm_defs.specs.FirstChecks.{check, names, checked, known_of, line_of, lists_too_many, has_too_many, defs, refs, defs_in, refs_in}
use Rattle.asm_defs.specs.SecondChecks.{Outcome, Words, Bytes, Entry, outcome}
use Rattle.asm_defs.specs.SecondChecks as second
use Rattle.asm_defs.specs.Memory.{AssembledLine, spot_by, joined, pieces_at, pieces_from, pieces_in, content_at, has_word, words_in, word_count, count_from}
use Rattle.asm_defs.specs.Memory.{part_words, with_use, after_word, after_by, references_of, is_placed_in, overlaps}
use Rattle.asm_defs.proofs.PlacedWords.{after_words}
use Rattle.asm_defs.specs.Modules.{assembled_line, module_by, module_of, definition_in, unused}
use Rattle.asm_defs.proofs.CheckLaws.{bound, checked_few}
use Rattle.module_image.proofs.TableLaws.{count_same, count_none}
use Rattle.module_image.proofs.HoldingLaws.{content_some}
use Rattle.base_defs.specs.Counts.{one_if}
use Rattle.source_defs.specs.Names.{same_text}

-- words are at even places
all_append : {A : Type 0} (P : A → Type 0) (first second : List A) → AllByRecursion P first → AllByRecursion P second → AllByRecursion P (first ++ second)
all_append P [] second all others = others
all_append P (item ∷ first) second all others = (all.0, all_append P first second all.1 others)

spot_even : (at : Part) (w : ℕ) → number_of (spot_by at (2 * w)) % 2 ≡ 0
spot_even part.Relocatable w = omega arith
spot_even _ w = omega arith

words_even : (at : Part) (w : ℕ) (words : List Spot) → AllByRecursion IsAtEvenPlace (map (λ word. record { at = spot_by at (2 * w); word = word }) words)
words_even at w [] = tt
words_even at w (word ∷ words) = (spot_even at w, words_even at w words)

pieces_even : (content : ℕ → Option Content) (at : Part) (first n : ℕ) → AllByRecursion IsAtEvenPlace (pieces_from content at first n)
pieces_even content at first zero = tt
pieces_even content at first (suc n) =
    all_append IsAtEvenPlace (pieces_at content at first) (pieces_from content at (first + 1) n)
    (words_even at first (joined (content (2 * first)) (content (2 * first + 1)))) (pieces_even content at (first + 1) n)

-- there are as many as words are placed
joined_length : (high low : Option Content) → length (joined high low) ≡ one_if (is_some high || is_some low)
joined_length None None = refl
joined_length (Some Second) low = refl
joined_length _ low = refl

abbrev holds_word : (ℕ → Option Content) → ℕ → Bool
holds_word content w = is_some (content (2 * w)) || is_some (content (2 * w + 1))

pieces_length : (content : ℕ → Option Content) (at : Part) (first n : ℕ) → length (pieces_from content at first n) ≡ count_from (holds_word content) first n
pieces_length content at first zero = refl
pieces_length content at first (suc n) =
    let words = joined (content (2 * first)) (content (2 * first + 1)) in
    omega (
      arith,
      length-append (pieces_at content at first) (pieces_from content at (first + 1) n),
      length-map {B = Piece} words,
      joined_length (content (2 * first)) (content (2 * first + 1)),
      pieces_length content at (first + 1) n,
    )

module _ (start : List Reference) (lines : List AssembledLine) where
  some_word : (at : Part) (w : ℕ) → holds_word (content_at start lines at) w ≡ has_word lines at w
  some_word at w = rw (content_some start lines at (2 * w), content_some start lines at (2 * w + 1)) refl

  pieces_count : (at : Part) → length (pieces_in (content_at start lines at) at) ≡ words_in lines at
  unfolding part_words
  pieces_count at =
      pieces_length (content_at start lines at) at 0 32768
      ∙ count_same (has_word lines at) (holds_word (content_at start lines at)) 0 32768 (λ w le. some_word at w)

-- there are as many last uses as names of REF
one_more : {A : Type 0} (b : Bool) (first : A) (others : List A) (second : A) (rest : List A) → length rest ≡ length others
    → length (if b then first ∷ others else second ∷ rest) ≡ suc (length others)
one_more true first others second rest same = refl
one_more false first others second rest same = ap suc same

use_length : (references : List Reference) (name : List ℕ) (at : Spot) → length (with_use references name at) ≡ length references
use_length [] name at = refl
use_length (reference ∷ references) name at =
    one_more (same_text reference.name name) (record { name = reference.name; last = at }) references reference (with_use references name at)
    (use_length references name at)

word_length : (references : List Reference) (at : Spot) (value : Value) → length (after_word references at value) ≡ length references
word_length references at (Absolute number) = refl
word_length references at (Relocatable number) = refl
word_length references at (External name) = use_length references name at

words_length : (at : Part) (references : List Reference) (from : ℕ) (words : List Value) → length (after_words at references from words) ≡ length references
words_length at references from [] = refl
words_length at references from (word ∷ words) =
    words_length at (after_word references (spot_by at from) word) (from + 2) words ∙ word_length references (spot_by at from) word

either_length : (b : Bool) (first second : List Reference) → length first ≡ length second → length (if b then first else second) ≡ length second
either_length true first second same = same
either_length false first second same = refl

line_length : (at : Location) (references : List Reference) (outcome : Outcome) → length (after_by at references outcome) ≡ length references
line_length at references second.Nothing = refl
line_length at references (Words words) =
    either_length (is_placed_in at.part) (after_words at.part references at.number words) references (words_length at.part references at.number words)
line_length at references (Bytes bytes) = refl
line_length at references (Entry entry) = refl

references_length : (start : List Reference) (lines : List AssembledLine) → length (references_of start lines) ≡ length start
references_length start [] = refl
references_length start (line ∷ before) = line_length line.at (references_of start before) line.outcome ∙ references_length start before

at_line_is : {A : Type 0} (number : ℕ) (answer : Result A AsmCause) (found : A) → at_line number answer ≡ Ok found → answer ≡ Ok found
at_line_is number (Ok value) found e = cc e
at_line_is number (Err refused) found e = cc e

-- no more names are listed than a module may have
record AtMost (lines : List Line) : Type 0 where
  defs : length (defs lines) ≤ 256
  refs : length (refs lines) ≤ 256

record Fits (before : List Line) (statement : Statement) : Type 0 where
  defs : length (defs before ++ defs_in statement) ≤ 256
  refs : length (refs before ++ refs_in statement) ≤ 256

few : (before names : List (List ℕ)) → has_too_many before names ≡ false → length (before ++ names) ≤ 256
few before names e = grind (arith, nat_tests, e, length-append before names)

none_more : (before : List (List ℕ)) → length before ≤ 256 → length (before ++ []) ≤ 256
none_more before le = omega (arith, le, length-append before [])

fits : (before : List Line) (statement : Statement) → AtMost before → lists_too_many (known_of before) statement ≡ false → Fits before statement
fits before (Def names) most e = record { defs = few (defs before) names e; refs = none_more (refs before) most.refs }
fits before (Ref names) most e = record { defs = none_more (defs before) most.defs; refs = few (refs before) names e }
fits before _ most e = record { defs = none_more (defs before) most.defs; refs = none_more (refs before) most.refs }

line_most : (before : List Line) (number : ℕ) (text : List ℕ) (line : Line) → AtMost before → check before number text ≡ Ok line → AtMost (line ∷ before)
line_most before number text line most e =
    let a = bound (checked (known_of before) text) _ line e in
    let fit = fits before a.0.statement most (checked_few (known_of before) text a.0 a.1) in
    let same : line_of number a.0 ≡ line = cc a.2 in
    subst (λ (found : Line). AtMost (found ∷ before)) same (record { defs = fit.defs; refs = fit.refs })

last_by : (b : Bool) (found : Line) (before lines : List Line) (rest : List (ℕ × List ℕ))
    → (if b then Ok (found ∷ before) else layout_after check (found ∷ before) rest) ≡ Ok lines
    → AtMost (found ∷ before) → (layout_after check (found ∷ before) rest ≡ Ok lines → AtMost (found ∷ before) → AtMost lines) → AtMost lines
last_by true found before lines rest e most next =
    let same : found ∷ before ≡ lines = cc e in
    subst AtMost same most
last_by false found before lines rest e most next = next e most

layout_most : (texts : List (ℕ × List ℕ)) (before lines : List Line) → layout_after check before texts ≡ Ok lines → AtMost before → AtMost lines
layout_most [] before lines e most =
    let same : before ≡ lines = cc e in
    subst AtMost same most
layout_most (text ∷ texts) before lines e most =
    let a = bound (at_line text.0 (check before text.0 text.1)) _ lines e in
    last_by a.0.last a.0 before lines texts a.2 (line_most before text.0 text.1 a.0 most (at_line_is text.0 (check before text.0 text.1) a.0 a.1))
    (λ f more. layout_most texts (a.0 ∷ before) lines f more)

-- and no more words are placed
room_by : (full overlap : Bool) (line found : AssembledLine) → (if full then Err Overflow else if overlap then Err Overlap else Ok line) ≡ Ok found
    → (full ≡ false) × (line ≡ found)
room_by true overlap line found e = cc e
room_by false true line found e = cc e
room_by false false line found e = (refl, cc e)

assembled_room : (known : Names) (lines : List Line) (found : List AssembledLine) → assembled_lines (assembled_line known) lines ≡ Ok found → word_count found ≤ 32768
assembled_room known [] found e =
    let same : [] ≡ found = cc e in
    subst (λ (lines : List AssembledLine). word_count lines ≤ 32768) same
    (omega (arith, count_none (has_word [] part.Relocatable) 0 part_words (λ w. refl), count_none (has_word [] part.Absolute) 0 part_words (λ w. refl)))
assembled_room known (line ∷ before) found e =
    let a = bound (assembled_lines (assembled_line known) before) _ found e in
    let b = bound (at_line line.number (assembled_line known before a.0 line)) _ found a.2 in
    let c = bound (outcome (look_up known) (place before line) line.statement) _ b.0 (at_line_is line.number (assembled_line known before a.0 line) b.0 b.1) in
    let placed : AssembledLine = record { at = place before line; outcome = c.0 } in
    let d = room_by (nat_lt 32768 (word_count (placed ∷ a.0))) (overlaps a.0 placed) placed b.0 c.2 in
    let same : b.0 ∷ a.0 ≡ found = cc b.2 in
    let room : word_count (placed ∷ a.0) ≤ 32768 = grind (arith, nat_tests, d.0) in
    subst (λ (lines : List AssembledLine). word_count lines ≤ 32768) same (subst (λ (line : AssembledLine). word_count (line ∷ a.0) ≤ 32768) d.1 room)

-- the module of lines has a text
all_fit : {A : Type 0} (first second : List A) (n m : ℕ) → length first ≡ n → length second ≡ m → n + m ≤ 32768 → length (first ++ second) ≤ 32768
all_fit first second n m e f le = omega (arith, e, f, le, length-append first second)

same_fit : (n m : ℕ) → n ≡ m → m ≤ 256 → n ≤ 256
same_fit n m e le = omega (arith, e, le)

module_text : (lines : List Line) (found : List AssembledLine) → AtMost lines → word_count found ≤ 32768 → HasText (module_by lines found)
module_text lines found most room =
    let start = map unused (refs lines) in
    let relocatable = pieces_in (content_at start found part.Relocatable) part.Relocatable in
    let absolute = pieces_in (content_at start found part.Absolute) part.Absolute in
    record {
      even_places = all_append IsAtEvenPlace relocatable absolute
          (pieces_even (content_at start found part.Relocatable) part.Relocatable 0 part_words)
          (pieces_even (content_at start found part.Absolute) part.Absolute 0 part_words);
      words = all_fit relocatable absolute (words_in found part.Relocatable) (words_in found part.Absolute)
          (pieces_count start found part.Relocatable) (pieces_count start found part.Absolute) room;
      defs = same_fit (length (map (definition_in (names lines)) (defs lines))) (length (defs lines))
          (length-map {B = Definition} (defs lines) (definition_in (names lines))) most.defs;
      refs = same_fit (length (references_of start found)) (length (refs lines))
          (references_length start found ∙ length-map {B = Reference} (refs lines) unused) most.refs;
    }

pub module_has_text : (texts : List (ℕ × List ℕ)) (m : Module) → module_of texts ≡ Ok m → HasText m
module_has_text texts m e =
    let a = bound (line_layout check texts) _ m e in
    let b = bound (assembled_lines (assembled_line (names a.0)) a.0) _ m a.2 in
    let same : module_by a.0 b.0 ≡ m = cc b.2 in
    subst HasText same
    (module_text a.0 b.0 (layout_most texts [] a.0 a.1 (record { defs = omega arith; refs = omega arith })) (assembled_room (names a.0) a.0 b.0 b.1))
