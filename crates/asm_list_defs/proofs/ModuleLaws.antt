-- The listing of an accepted source shows its module.
use Rattle.std.proofs.Common.{inl, inr, ◌≡◌, ℕ, zero, suc, ◌+◌, ◌-◌, ◌<◌, ◌≤◌, Bool, true, false, ◌&&◌, List, [], ◌∷◌}
use Rattle.std.proofs.Common.{◌++◌, Some, Ok, Err, refl, sym, ap, subst, ◌∙◌, arith}
use Rattle.std.specs.Prelude.{⊤, Result, map, if◌then◌else◌, nat_le, nat_lt, slice_get}
use Rattle.std.proofs.lemmas.Bool.Decides.{nat_tests}
use Rattle.std.proofs.lemmas.Bool.{and_parts, or_parts, or_right, cases_lt}
use Rattle.source_defs.specs.Refusals.{Refusal, at_line}
use Rattle.expression_defs.specs.Symbols.{Names, look_up}
use Rattle.expression_defs.specs.Layout.{assembled_lines, set_or}
use Rattle.object_defs.specs.Modules.{Module, Reference, most_words}
use Rattle.asm_defs.specs.declared.causes.AsmCause.{AsmCause}
use Rattle.asm_defs.specs.declared.causes.AsmCause.TheVariants.{Overflow, Overlap}
use Rattle.asm_defs.specs.declared.location.Part.{Part}
use Rattle.asm_defs.specs.declared.location.Part.TheVariants as part
use Rattle.asm_defs.specs.Locations.{Line, place}
use Rattle.asm_defs.specs.FirstChecks.{names, refs}
use Rattle.asm_defs.specs.SecondChecks.{outcome}
use Rattle.asm_defs.specs.Memory.{AssembledLine, bytes_in, is_placed_in, same_part, covers, is_placed, any_from, overlaps, word_count, contents, content_at}
use Rattle.asm_defs.specs.Modules.{assembled_line, with_room, unused, module_after}
use Rattle.asm_defs.proofs.CheckLaws.{bound}
use Rattle.shelf_defs.specs.Files.{Contents}
use Rattle.shelf_defs.specs.Copied.{PlacedLine, Copied, copied_by}
use Rattle.shelf_defs.specs.Assembly.{in_place, layout_copied, module_of_copied}
use Rattle.asm_list_defs.specs.Listed.{Shown, shown_at, shown, found_or, paired, listed_names, listing_after, listing_by, listing_of}
use Rattle.asm_list_defs.specs.Laws.{shown_assembled, shown_in_order, AreAtTheirPlaces, IsListed, ListingsShowModules}

-- what has room stays as it is, and nothing of it was placed before
pub record HasRoom (earlier : List AssembledLine) (line found : AssembledLine) : Type 0 where
  pub same : line ≡ found
  pub free : overlaps earlier line ≡ false

room_by : (full taken : Bool) (earlier : List AssembledLine) (line found : AssembledLine) → overlaps earlier line ≡ taken
    → (if full then Err Overflow else if taken then Err Overlap else Ok line) ≡ Ok found → HasRoom earlier line found
room_by false false earlier line found is e = record { same = cc e; free = is }
room_by _ _ earlier line found is e = cc e

has_room : (earlier : List AssembledLine) (line found : AssembledLine) → with_room earlier line ≡ Ok found → HasRoom earlier line found
has_room earlier line found e = room_by (nat_lt most_words (word_count (line ∷ earlier))) (overlaps earlier line) earlier line found refl e

at_line_ok : {A : Type 0} (number : ℕ) (answer : Result A AsmCause) (found : A) → at_line number answer ≡ Ok found → answer ≡ Ok found
at_line_ok number (Ok value) found e = cc e
at_line_ok number (Err refused) found e = cc e

-- each of the lines has room after those before it
abbrev AllRoom : List AssembledLine → Type 0
AllRoom [] = ⊤
AllRoom (line ∷ before) = (overlaps before line ≡ false) × AllRoom before

module _ (known : Names) where
  pub record Assembles (lines : List Line) (found : List AssembledLine) : Type 0 where
    pub shows : shown (Some known) lines ≡ shown_in_order lines found
    pub room : AllRoom found

  one_assembled : (before : List Line) (earlier : List AssembledLine) (line : Line) (found : AssembledLine) → assembled_line known before earlier line ≡ Ok found
      → (shown_at (Some known) (place before line) line.origin line.statement ≡ shown_assembled line found) × (overlaps earlier found ≡ false)
  one_assembled before earlier line found e =
      let at = place before line in
      let a = bound (outcome (look_up known) at line.statement) _ found e in
      let room = has_room earlier (record { at = at; outcome = a.0 }) found a.2 in (
        ap (λ answer. record { at = set_or line.origin at; outcome = found_or at answer }) a.1 ∙ ap (shown_assembled line) room.same,
        subst (λ found. overlaps earlier found ≡ false) room.same room.free,
      )

  all_assembled : (lines : List Line) (found : List AssembledLine) → assembled_lines (assembled_line known) lines ≡ Ok found → Assembles lines found
  all_assembled [] found e = let same : [] ≡ found = cc e in subst (Assembles []) same (record { shows = refl; room = tt })
  all_assembled (line ∷ before) found e =
      let a = bound (assembled_lines (assembled_line known) before) _ found e in
      let b = bound (at_line line.number (assembled_line known before a.0 line)) _ found a.2 in
      let one = one_assembled before a.0 line b.0 (at_line_ok line.number (assembled_line known before a.0 line) b.0 b.1) in
      let others = all_assembled before a.0 a.1 in
      let same : b.0 ∷ a.0 ≡ found = cc b.2 in
      subst (Assembles (line ∷ before)) same (record {
        shows = ap (λ (shows : List Shown). shows ++ shown_at (Some known) (place before line) line.origin line.statement ∷ []) others.shows
            ∙ ap (λ (show : Shown). shown_in_order before a.0 ++ show ∷ []) one.0;
        room = (one.1, others.room);
      })

each_free : (f : ℕ → Bool) (from n p : ℕ) → any_from f from n ≡ false → from ≤ p → p < from + n → f p ≡ false
each_free f from zero p free ge lt = absurd (omega (arith, ge, lt))
each_free f from (suc n) p free ge lt =
    let parts = or_parts (f from) (any_from f (from + 1) n) free in
    elim (cases_lt from p) [
      | inl less ↦ each_free f (from + 1) n p parts.1 (omega arith) (omega arith)
      | inr most ↦ let same : from ≡ p = omega arith in ap f (sym same) ∙ parts.0
    ]

abbrev same_parts : Part → Part → Type 0
same_parts a b = a ≡ b

part_same : (a b : Part) → same_part a b ≡ true → same_parts a b
part_same part.Relocatable part.Relocatable e = refl
part_same part.Absolute part.Absolute e = refl
part_same _ _ e = cc e

placed_same : (a : Part) → is_placed_in a ≡ true → same_part a a ≡ true
placed_same part.Dummy placed = cc placed
placed_same _ placed = refl

-- a line covers its own places
covers_own : (line : AssembledLine) (k : ℕ) → is_placed_in line.at.part ≡ true → k < bytes_in line.outcome → covers line line.at.part (line.at.number + k) ≡ true
covers_own line k placed lt =
    let from : nat_le line.at.number (line.at.number + k) ≡ true = grind (arith, nat_tests) in
    let to : nat_lt (line.at.number + k) (line.at.number + bytes_in line.outcome) ≡ true = grind (arith, nat_tests, lt) in
    rw (placed_same line.at.part placed, from, to) refl

-- they are placed after it too
still_placed : (later before : List AssembledLine) (line : AssembledLine) (p : Part) (n : ℕ) → covers line p n ≡ true → is_placed (later ++ line ∷ before) p n ≡ true
still_placed [] before line p n own = rw own refl
still_placed (other ∷ later) before line p n own = or_right (covers other p n) (is_placed (later ++ line ∷ before) p n) (still_placed later before line p n own)

-- a line that has room covers no place of those before it
apart_by : (earlier : List AssembledLine) (other : AssembledLine) (p : Part) (n : ℕ) (b : Bool) → overlaps earlier other ≡ false → is_placed earlier p n ≡ true → covers other p n ≡ b
    → covers other p n ≡ false
apart_by earlier other p n false free placed e = e
apart_by earlier other p n true free placed e =
    let ends = and_parts (same_part other.at.part p && nat_le other.at.number n) (nat_lt n (other.at.number + bytes_in other.outcome)) e in
    let tests = and_parts (same_part other.at.part p) (nat_le other.at.number n) ends.0 in
    let ge : other.at.number ≤ n = grind (arith, nat_tests, tests.1) in
    let lt : n < other.at.number + bytes_in other.outcome = grind (arith, nat_tests, ends.1) in
    let none : is_placed earlier other.at.part n ≡ false =
    each_free (is_placed earlier other.at.part) other.at.number (bytes_in other.outcome) n free ge lt in
    let same : same_parts other.at.part p = part_same other.at.part p tests.0 in
    let not_placed : is_placed earlier p n ≡ false = ap (λ (found : Part). is_placed earlier found n) (sym same) ∙ none in
    cc (placed, not_placed)

module _ (references : List Reference) (line : AssembledLine) (before : List AssembledLine) (k : ℕ) (placed : is_placed_in line.at.part ≡ true)
    (within : k < bytes_in line.outcome) where
  abbrev p : Part
  p = line.at.part

  abbrev n : ℕ
  n = line.at.number + k

  own : covers line p n ≡ true
  own = covers_own line k placed within

  are_at_place : (later : List AssembledLine) → AllRoom (later ++ line ∷ before)
      → content_at references (later ++ line ∷ before) p n ≡ slice_get (contents references before line) k
  are_at_place [] room =
      let back : line.at.number + k - line.at.number ≡ k = omega arith in
      rw (own, back) refl
  are_at_place (other ∷ later) room =
      let apart = apart_by (later ++ line ∷ before) other p n (covers other p n) room.0 (still_placed later before line p n own) refl in
      rw apart (are_at_place later room.1)

all_stand : (references : List Reference) (found : List AssembledLine) → AllRoom found → AreAtTheirPlaces references found
all_stand references found room later before line k is placed within =
    ap (λ (all : List AssembledLine). content_at references all line.at.part (line.at.number + k)) is
    ∙ are_at_place references line before k placed within later (subst AllRoom is room)

-- an accepted source
in_place_ok : {A : Type 0} (lines : List PlacedLine) (answer : Result A (Refusal AsmCause)) (found : A) → in_place lines answer ≡ Ok found → answer ≡ Ok found
in_place_ok lines (Ok value) found e = cc e
in_place_ok lines (Err refusal) found e = cc e

of_copied : (copied : Copied) (m : Module) (contents : Contents) (source : List ℕ) → copied ≡ copied_by contents source → module_of_copied copied ≡ Ok m
    → IsListed m contents source (listing_of copied)
of_copied copied m contents source same e =
    let a = bound (layout_copied copied) _ m e in
    let b = bound (assembled_lines (assembled_line (names a.0)) a.0) _ m (in_place_ok copied.lines (module_after a.0) m a.2) in
    let is = all_assembled (names a.0) a.0 b.0 b.1 in
    let found : listing_of copied ≡ listing_after copied.lines a.0 (Ok b.0) =
    ap (listing_by copied.lines) a.1 ∙ ap (listing_after copied.lines a.0) b.1 in
    record {
      lines = a.0;
      line_layout = ap layout_copied (sym same) ∙ a.1;
      assembled_lines = b.0;
      come = b.1;
      is = cc b.2;
      shows = ap (λ listing. listing.lines) found
          ∙ (ap (paired copied.lines) is.shows ∙ ap (λ (copied : Copied). paired copied.lines (shown_in_order a.0 b.0)) same);
      names = ap (λ listing. listing.names) found ∙ ap (λ (copied : Copied). listed_names copied.lines a.0) same;
      whole = ap (λ listing. listing.refusal) found;
      are_at_places = all_stand (map unused (refs a.0)) b.0 is.room;
    }

pub listings_show_modules : ListingsShowModules
listings_show_modules contents source m e = of_copied (copied_by contents source) m contents source refl e
