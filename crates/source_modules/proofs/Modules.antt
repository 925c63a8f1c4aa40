-- The module of lines of bytes is one of numbers of 16 bits and of names.
use Rattle.std.proofs.Common.{◌≡◌, ℕ, zero, suc, ◌+◌, ◌-◌, ◌*◌, ◌<◌, ◌≤◌, Bool, true, false, List, [], ◌∷◌, ◌++◌, Some, None, Ok, Err, length, refl, subst}
use Rattle.std.proofs.Common.{arith}
use Rattle.std.specs.Prelude.{Option, Result, IfSome, ⊤, if◌then◌else◌, map, slice_get, nat_lt}
use Rattle.std.specs.List.{AllByRecursion}
use Rattle.source_defs.specs.Refusals.{at_line}
use Rattle.source_defs.specs.Names.{same_text}
use Rattle.source_defs.specs.declared.text.Line.{Line as TextLine}
use Rattle.source_defs.specs.Lines.{part as text_part, lines, line_texts}
use Rattle.expression_defs.specs.Expression.{Value, Absolute, Relocatable, External}
use Rattle.expression_defs.specs.Symbols.{Names, look_up}
use Rattle.expression_defs.specs.Layout.{line_layout, assembled_lines}
use Rattle.object_defs.specs.declared.spot.Spot.{Spot}
use Rattle.object_defs.specs.declared.spot.Piece.{Piece}
use Rattle.object_defs.specs.Modules.{Module, Reference, is_module_name}
use Rattle.object_defs.specs.Laws.{FitsSpot, FitsPiece, FitsDefinition, FitsReference, IsModule}
use Rattle.asm_defs.specs.declared.causes.AsmCause.{AsmCause}
use Rattle.asm_defs.specs.declared.causes.AsmCause.TheVariants.{Overflow, Overlap}
use Rattle.asm_defs.specs.declared.content.Content.{Content}
use Rattle.asm_defs.specs.declared.content.Content.TheVariants as content
use Rattle.asm_defs.specs.declared.location.Part.{Part}
use Rattle.asm_defs.specs.declared.location.Part.TheVariants as part
use Rattle.asm_defs.specs.declared.location.Location.{Location}
use Rattle.asm_defs.specs.Statements.{Statement, Def, Ref, Idt}
use Rattle.asm_defs.specs.Locations.{Line, place, reached}
use Rattle.asm_defs.specs.FirstChecks.{check, names, defs, refs, defs_in, refs_in}
use Rattle.asm_defs.specs.SecondChecks.{Outcome, Words, Bytes, Entry, outcome}
use Rattle.asm_defs.specs.SecondChecks as second
use Rattle.asm_defs.specs.Memory.{AssembledLine, spot_by, is_placed_in, bytes_in, covers, last_use, with_use, word_of, after_word, contents_by, after_by}
use Rattle.asm_defs.specs.Memory.{references_of, contents, content_at}
use Rattle.asm_defs.specs.Memory.{byte_in, joined, pieces_at, pieces_from, pieces_in, part_words, word_count, overlaps}
use Rattle.asm_defs.proofs.PlacedWords.{after_words, word_contents}
use Rattle.asm_defs.specs.Growing.{declared_size}
use Rattle.asm_defs.specs.Modules.{assembled_line, title_by, title, spot_of, definition_in, entry_by, entry, unused, module_by, module_of, module_of_source}
use Rattle.asm_defs.proofs.CheckLaws.{bound, IsTitled}
use Rattle.asm_defs.proofs.OutcomeSizes.{outcome_size}
use Rattle.source_modules.proofs.Answers.{ok_has}
use Rattle.source_modules.proofs.Bytes.{IsByte, AreBytes, range_bytes}
use Rattle.source_modules.proofs.Values.{FitsValue, FitsLook}
use Rattle.source_modules.proofs.Instructions.{FitsValues}
use Rattle.source_modules.proofs.Outcomes.{FitsOutcome, outcome_fits}
use Rattle.source_modules.proofs.Statements.{AreKept, HasNames}
use Rattle.source_modules.proofs.LayoutLine.{AreGood, FitsLines, TextBytes, layout_fits, reached_le, nothing_placed}

all_append : {A : Type 0} (P : A → Type 0) (first second : List A) → AllByRecursion P first → AllByRecursion P second → AllByRecursion P (first ++ second)
all_append P [] second all others = others
all_append P (item ∷ first) second all others = (all.0, all_append P first second all.1 others)

all_mapped : {A B : Type 0} (P : A → Type 0) (Q : B → Type 0) (make : A → B) (items : List A) → AllByRecursion P items → ((item : A) → P item → Q (make item))
    → AllByRecursion Q (map make items)
all_mapped P Q make [] all each = tt
all_mapped P Q make (item ∷ items) all each = (each item all.0, all_mapped P Q make items all.1 each)

one_of : {A : Type 0} (P : A → Type 0) (items : List A) (k : ℕ) → AllByRecursion P items → IfSome (slice_get items k) P
one_of P [] k all = tt
one_of P (item ∷ items) zero all = all.0
one_of P (item ∷ items) (suc k) all = one_of P items k all.1

-- ---- the lines by the second checks

record IsPlacedThere (line : AssembledLine) : Type 0 where
  fits : FitsOutcome line.outcome
  room : line.at.number + bytes_in line.outcome ≤ 65536

abbrev AreAllResolved : List AssembledLine → Type 0
AreAllResolved lines = AllByRecursion IsPlacedThere lines

at_line_is : {A : Type 0} (number : ℕ) (answer : Result A AsmCause) (found : A) → at_line number answer ≡ Ok found → answer ≡ Ok found
at_line_is number (Ok value) found e = cc e
at_line_is number (Err refused) found e = cc e

room_by : (full overlap : Bool) (line found : AssembledLine) → (if full then Err Overflow else if overlap then Err Overlap else Ok line) ≡ Ok found
    → line ≡ found
room_by true overlap line found e = cc e
room_by false true line found e = cc e
room_by false false line found e = cc e

assembled_fit : (known : Names) → FitsLook (look_up known) → (lines : List Line) (found : List AssembledLine) → AreGood lines
    → assembled_lines (assembled_line known) lines ≡ Ok found → AreAllResolved found
assembled_fit known fits [] found good e =
    let same : [] ≡ found = cc e in
    subst AreAllResolved same tt
assembled_fit known fits (line ∷ before) found good e =
    let a = bound (assembled_lines (assembled_line known) before) _ found e in
    let b = bound (at_line line.number (assembled_line known before a.0 line)) _ found a.2 in
    let at = place before line in
    let c = bound (outcome (look_up known) at line.statement) _ b.0 (at_line_is line.number (assembled_line known before a.0 line) b.0 b.1) in
    let placed : AssembledLine = record { at = at; outcome = c.0 } in
    let same_line : placed ≡ b.0 = room_by (nat_lt 32768 (word_count (placed ∷ a.0))) (overlaps a.0 placed) placed b.0 c.2 in
    let same : b.0 ∷ a.0 ≡ found = cc b.2 in
    let fit_statement = good.0.fit_statement in
    let size : bytes_in c.0 ≡ declared_size line.statement = outcome_size (look_up known) at line.statement c.0 fit_statement.sized c.1 in
    let is_resolved : IsPlacedThere placed = record {
      fits = ok_has FitsOutcome (outcome (look_up known) at line.statement) c.0 c.1 (outcome_fits (look_up known) fits at line.statement fit_statement.bytes);
      room = omega (arith, good.0.room, size);
    } in
    subst AreAllResolved same (subst IsPlacedThere same_line is_resolved, assembled_fit known fits before a.0 good.1 a.1)

-- ---- the uses of external names

abbrev FitUses : List Reference → Type 0
FitUses uses = AllByRecursion FitsReference uses

spot_fits : (at : Part) (number : ℕ) → number < 65536 → FitsSpot (spot_by at number)
spot_fits part.Relocatable number lt = lt
spot_fits part.Absolute number lt = lt
spot_fits part.Dummy number lt = lt

last_by : (b : Bool) (one other : Spot) → FitsSpot one → FitsSpot other → FitsSpot (if b then one else other)
last_by true one other this that = this
last_by false one other this that = that

last_fits : (uses : List Reference) (name : List ℕ) → FitUses uses → FitsSpot (last_use uses name)
last_fits [] name all = omega arith
last_fits (use_of ∷ uses) name all = last_by (same_text use_of.name name) use_of.last (last_use uses name) all.0.last (last_fits uses name all.1)

use_by : (b : Bool) (first second : List Reference) → FitUses first → FitUses second → FitUses (if b then first else second)
use_by true first second this that = this
use_by false first second this that = that

use_fits : (uses : List Reference) (name : List ℕ) (at : Spot) → FitsSpot at → FitUses uses → FitUses (with_use uses name at)
use_fits [] name at fits all = tt
use_fits (use_of ∷ uses) name at fits all =
    use_by (same_text use_of.name name) (record { name = use_of.name; last = at } ∷ uses) (use_of ∷ with_use uses name at)
    (record { name = all.0.name; last = fits }, all.1) (all.0, use_fits uses name at fits all.1)

word_use : (uses : List Reference) (at : Spot) (word : Value) → FitsSpot at → FitUses uses → FitUses (after_word uses at word)
word_use uses at (Absolute number) fits all = all
word_use uses at (Relocatable number) fits all = all
word_use uses at (External name) fits all = use_fits uses name at fits all

word_fits : (uses : List Reference) (word : Value) → FitsValue word → FitUses uses → FitsSpot (word_of uses word)
word_fits uses (Absolute number) fits all = fits
word_fits uses (Relocatable number) fits all = fits
word_fits uses (External name) fits all = last_fits uses name all

words_use : (words : List Value) (at : Part) (uses : List Reference) (from : ℕ) → from + 2 * length words ≤ 65536 → FitUses uses
    → FitUses (after_words at uses from words)
words_use [] at uses from le all = all
words_use (word ∷ words) at uses from le all =
    words_use words at (after_word uses (spot_by at from) word) (from + 2) (omega (arith, le))
    (word_use uses (spot_by at from) word (spot_fits at from (omega (arith, le))) all)

line_use : (line : AssembledLine) (uses : List Reference) → IsPlacedThere line → FitUses uses → FitUses (after_by line.at uses line.outcome)
line_use line uses is_resolved all = by line.outcome is_resolved.room
  where
    by : (found : Outcome) → line.at.number + bytes_in found ≤ 65536 → FitUses (after_by line.at uses found)
    by (Words words) room =
        use_by (is_placed_in line.at.part) (after_words line.at.part uses line.at.number words) uses
        (words_use words line.at.part uses line.at.number room all) all
    by (Bytes bytes) room = all
    by (Entry spot) room = all
    by second.Nothing room = all

uses_fit : (start : List Reference) (lines : List AssembledLine) → FitUses start → AreAllResolved lines → FitUses (references_of start lines)
uses_fit start [] fits all = fits
uses_fit start (line ∷ before) fits all = line_use line (references_of start before) all.0 (uses_fit start before fits all.1)

-- ---- what the lines place

abbrev FitsContent : Content → Type 0
FitsContent (content.Byte byte) = byte < 256
FitsContent (content.First word) = FitsSpot word
FitsContent content.Second = ⊤

abbrev FitContents : List Content → Type 0
FitContents found = AllByRecursion FitsContent found

words_content : (words : List Value) (at : Part) (uses : List Reference) (from : ℕ) → from + 2 * length words ≤ 65536 → FitsValues words → FitUses uses
    → FitContents (word_contents at uses from words)
words_content [] at uses from le fits all = tt
words_content (word ∷ words) at uses from le fits all = (
  word_fits uses word fits.0 all,
  (
    tt,
    words_content words at (after_word uses (spot_by at from) word) (from + 2) (omega (arith, le)) fits.1
        (word_use uses (spot_by at from) word (spot_fits at from (omega (arith, le))) all),
  ),
)

line_content : (at : Location) (uses : List Reference) (found : Outcome) → at.number + bytes_in found ≤ 65536 → FitsOutcome found → FitUses uses
    → FitContents (contents_by at uses found)
line_content at uses (Words words) room fits all = words_content words at.part uses at.number room fits all
line_content at uses (Bytes bytes) room fits all = all_mapped IsByte FitsContent content.Byte bytes fits (λ byte lt. lt)
line_content at uses (Entry spot) room fits all = tt
line_content at uses second.Nothing room fits all = tt

abbrev FitsAt : Option Content → Type 0
FitsAt found = IfSome found FitsContent

at_by : (b : Bool) (one other : Option Content) → FitsAt one → FitsAt other → FitsAt (if b then one else other)
at_by true one other this that = this
at_by false one other this that = that

content_fits : (start : List Reference) (lines : List AssembledLine) (at : Part) (p : ℕ) → FitUses start → AreAllResolved lines
    → FitsAt (content_at start lines at p)
content_fits start [] at p fits all = tt
content_fits start (line ∷ before) at p fits all =
    at_by (covers line at p) (slice_get (contents start before line) (p - line.at.number)) (content_at start before at p)
    (one_of FitsContent (contents start before line) (p - line.at.number)
    (line_content line.at (references_of start before) line.outcome all.0.room all.0.fits (uses_fit start before fits all.1)))
    (content_fits start before at p fits all.1)

-- ---- its words

abbrev FitPieces : List Piece → Type 0
FitPieces found = AllByRecursion FitsPiece found

byte_fits : (found : Option Content) → FitsAt found → byte_in found < 256
byte_fits None fits = omega arith
byte_fits (Some (content.Byte byte)) fits = fits
byte_fits (Some (content.First word)) fits = omega arith
byte_fits (Some content.Second) fits = omega arith

two_fit : (high low : ℕ) → high < 256 → low < 256 → 256 * high + low < 65536
two_fit high low a b = omega (arith, a, b)

abbrev FitSpots : List Spot → Type 0
FitSpots spots = AllByRecursion FitsSpot spots

joined_fit : (high low : Option Content) → FitsAt high → FitsAt low → FitSpots (joined high low)
joined_fit None None a b = tt
joined_fit (Some (content.First word)) low a b = (a, tt)
joined_fit (Some (content.Byte byte)) low a b = (two_fit byte (byte_in low) a (byte_fits low b), tt)
joined_fit (Some content.Second) low a b = (two_fit 0 (byte_in low) (omega arith) (byte_fits low b), tt)
joined_fit None (Some low) a b = (two_fit 0 (byte_in (Some low)) (omega arith) (byte_fits (Some low) b), tt)

pieces_fit : (count first : ℕ) (found : ℕ → Option Content) (at : Part) → first + count ≤ 32768 → ((p : ℕ) → FitsAt (found p))
    → FitPieces (pieces_from found at first count)
pieces_fit zero first found at le fits = tt
pieces_fit (suc count) first found at le fits =
    all_append FitsPiece (pieces_at found at first) (pieces_from found at (first + 1) count)
    (all_mapped FitsSpot FitsPiece (λ word. record { at = spot_by at (2 * first); word = word }) (joined (found (2 * first)) (found (2 * first + 1)))
    (joined_fit (found (2 * first)) (found (2 * first + 1)) (fits (2 * first)) (fits (2 * first + 1)))
    (λ word fits. record { at = spot_fits at (2 * first) (omega (arith, le)); word = fits }))
    (pieces_fit count (first + 1) found at (omega (arith, le)) fits)

all_pieces : (found : ℕ → Option Content) (at : Part) → ((p : ℕ) → FitsAt (found p)) → FitPieces (pieces_in found at)
unfolding part_words
all_pieces found at fits = pieces_fit 32768 0 found at (omega arith) fits

-- ---- its name, its names and its entry

title_step : (statement : Statement) (before : List ℕ) → IsTitled statement → is_module_name before ≡ true → is_module_name (title_by before statement) ≡ true
title_step (Idt text) before titled is = titled
title_step _ before titled is = is

title_is : (lines : List Line) → AreGood lines → is_module_name (title lines) ≡ true
title_is [] good = refl
title_is (line ∷ before) good = title_step line.statement (title before) good.0.titled (title_is before good.1)

defs_fit : (statement : Statement) → HasNames statement → AreKept (defs_in statement)
defs_fit (Def names) kept = kept
defs_fit _ kept = tt

refs_fit : (statement : Statement) → HasNames statement → AreKept (refs_in statement)
refs_fit (Ref names) kept = kept
refs_fit _ kept = tt

abbrev IsKeptName : List ℕ → Type 0
IsKeptName name = AreKept (name ∷ [])

defs_kept : (lines : List Line) → AreGood lines → AreKept (defs lines)
defs_kept [] good = tt
defs_kept (line ∷ before) good =
    all_append _ (defs before) (defs_in line.statement) (defs_kept before good.1) (defs_fit line.statement good.0.fit_statement.names)

refs_kept : (lines : List Line) → AreGood lines → AreKept (refs lines)
refs_kept [] good = tt
refs_kept (line ∷ before) good =
    all_append _ (refs before) (refs_in line.statement) (refs_kept before good.1) (refs_fit line.statement good.0.fit_statement.names)

value_fits : (found : Option Value) → IfSome found FitsValue → FitsSpot (spot_of found)
value_fits (Some (Absolute number)) fits = fits
value_fits (Some (Relocatable number)) fits = fits
value_fits (Some (External name)) fits = omega arith
value_fits None fits = omega arith

definitions_fit : (known : Names) (names : List (List ℕ)) → FitsLook (look_up known) → AreKept names
    → AllByRecursion FitsDefinition (map (definition_in known) names)
definitions_fit known [] fits kept = tt
definitions_fit known (name ∷ names) fits kept =
    (record { name = kept.0; value = value_fits (look_up known name) (fits name) }, definitions_fit known names fits kept.1)

unused_fit : (names : List (List ℕ)) → AreKept names → FitUses (map unused names)
unused_fit [] kept = tt
unused_fit (name ∷ names) kept = (record { name = kept.0; last = omega arith }, unused_fit names kept.1)

entry_step : (found : Outcome) (before : Option Spot) → FitsOutcome found → IfSome before FitsSpot → IfSome (entry_by before found) FitsSpot
entry_step (Entry spot) before fits is = fits
entry_step _ before fits is = is

entry_fits : (lines : List AssembledLine) → AreAllResolved lines → IfSome (entry lines) FitsSpot
entry_fits [] all = tt
entry_fits (line ∷ before) all = entry_step line.outcome (entry before) all.0.fits (entry_fits before all.1)

-- ---- the module

below : (size : ℕ) → size ≤ 65535 → size < 65536
below size le = omega (arith, le)

lines_module : (lines : List Line) (found : List AssembledLine) → FitsLines lines → AreAllResolved found → IsModule (module_by lines found)
lines_module lines found fits all =
    let start = map unused (refs lines) in
    let unused_are = unused_fit (refs lines) (refs_kept lines fits.good) in
    let relocatable = pieces_in (content_at start found part.Relocatable) part.Relocatable in
    let absolute = pieces_in (content_at start found part.Absolute) part.Absolute in
    record {
      name = title_is lines fits.good;
      size = below (reached lines) (reached_le lines fits.good);
      pieces = all_append FitsPiece relocatable absolute
          (all_pieces (content_at start found part.Relocatable) part.Relocatable (λ p. content_fits start found part.Relocatable p unused_are all))
          (all_pieces (content_at start found part.Absolute) part.Absolute (λ p. content_fits start found part.Absolute p unused_are all));
      defs = definitions_fit (names lines) (defs lines) fits.known (defs_kept lines fits.good);
      refs = uses_fit start found unused_are all;
      entry = entry_fits found all;
    }

-- the module of lines of bytes
pub module_is : (texts : List (ℕ × List ℕ)) (m : Module) → AllByRecursion TextBytes texts → module_of texts ≡ Ok m → IsModule m
module_is texts m are e =
    let a = bound (line_layout check texts) _ m e in
    let b = bound (assembled_lines (assembled_line (names a.0)) a.0) _ m a.2 in
    let same : module_by a.0 b.0 ≡ m = cc b.2 in
    let fits = layout_fits texts [] a.0 are a.1 nothing_placed in
    subst IsModule same (lines_module a.0 b.0 fits (assembled_fit (names a.0) fits.known a.0 b.0 fits.good b.1))

pub parts_bytes : (source : List ℕ) (found : List TextLine) → AreBytes source
    → AllByRecursion TextBytes (map (λ line. (line.number, text_part source line.span)) found)
parts_bytes source [] are = tt
parts_bytes source (line ∷ found) are = (range_bytes source line.span.start line.span.end are, parts_bytes source found are)

-- the module of a source of bytes
pub source_module : (source : List ℕ) (m : Module) → AreBytes source → module_of_source source ≡ Ok m → IsModule m
source_module source m are e = module_is (line_texts source) m (parts_bytes source (lines source) are) e
