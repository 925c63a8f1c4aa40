-- A line that is put into the place that was held for it.
use Rattle.std.proofs.Common.{◌≡◌, ℕ, zero, suc, ◌+◌, ◌-◌, ◌*◌, ◌<◌, ◌≤◌, Bool, true, false, ◌&&◌, ◌||◌, List, [], ◌∷◌, Ok, Err, length, refl, sym, ap, ◌∙◌}
use Rattle.std.proofs.Common.{inl, inr, arith}
use Rattle.std.specs.Prelude.{◌⊎◌, Option, Result, nat_le, nat_lt, if◌then◌else◌, slice_get}
use Rattle.std.specs.List.{list_all}
use Rattle.std.proofs.lemmas.Bool.Decides.{nat_tests}
use Rattle.std.proofs.lemmas.Bool.{and_parts, or_parts, or_left, or_right, cases_lt}
use Rattle.source_defs.specs.Refusals.{◌>>=◌}
use Rattle.source_defs.specs.Orders.{onto}
use Rattle.expression_defs.specs.Expression.{Value, External}
use Rattle.object_defs.specs.declared.spot.Spot.{Spot}
use Rattle.object_defs.specs.Modules.{Reference}
use Rattle.asm_defs.specs.declared.causes.AsmCause.{AsmCause}
use Rattle.asm_defs.specs.declared.causes.AsmCause.TheVariants.{Overflow, Overlap}
use Rattle.asm_defs.specs.declared.content.Content.{Content}
use Rattle.asm_defs.specs.declared.location.Part.{Part}
use Rattle.asm_defs.specs.declared.location.Part.TheVariants as part
use Rattle.asm_defs.specs.declared.location.Location.{Location}
use Rattle.asm_defs.specs.SecondChecks.{Outcome, Words, Entry}
use Rattle.asm_defs.specs.Memory.{AssembledLine, same_part, covers, is_placed, has_word, words_in, word_count, overlaps, any_from, part_words, bytes_in}
use Rattle.asm_defs.specs.Memory.{spot_by, word_of, after_word, contents_by, contents, content_at, references_of, after_by}
use Rattle.asm_defs.specs.Memory.{is_placed_in}
use Rattle.asm_defs.proofs.PlacedWords.{word_contents, after_words}
use Rattle.asm_defs.specs.Modules.{with_room, entry_by}
use Rattle.asm_defs.specs.Growing.{is_own, is_resolved}
use Rattle.module_image.specs.Tables.{cell, put_from}
use Rattle.module_image.specs.Images.{IsImage, IsPut}
use Rattle.module_image.specs.ResolvedLines.{IsResolvedAfter, AreAllResolved, FillsPlace, SamePlaces}
use Rattle.module_image.specs.declared.image.Image.{Image}
use Rattle.module_image.proofs.TableLaws.{count_same}
use Rattle.module_image.proofs.HoldingLaws.{chosen, any_same, are_same, part_same, part_placed, put_cell, is_among, contents_length}

-- lines that use no name of others
own_word : (first second : List Reference) (value : Value) → is_own value ≡ true → word_of first value ≡ word_of second value
own_word first second (External name) own = cc own
own_word first second _ own = refl

own_use : (references : List Reference) (at : Spot) (value : Value) → is_own value ≡ true → after_word references at value ≡ references
own_use references at (External name) own = cc own
own_use references at _ own = refl

own_words : (part : Part) (first second : List Reference) (at : ℕ) (words : List Value) → list_all is_own words ≡ true
    → word_contents part first at words ≡ word_contents part second at words
own_words part first second at [] own = refl
own_words part first second at (word ∷ words) own =
    let each = and_parts (is_own word) (list_all is_own words) own in
    rw (own_word first second word each.0, own_use first (spot_by part at) word each.0)
    (rw (own_use second (spot_by part at) word each.0, own_words part first second (at + 2) words each.1) refl)

own_uses : (part : Part) (references : List Reference) (at : ℕ) (words : List Value) → list_all is_own words ≡ true
    → after_words part references at words ≡ references
own_uses part references at [] own = refl
own_uses part references at (word ∷ words) own =
    let each = and_parts (is_own word) (list_all is_own words) own in
    rw (own_use references (spot_by part at) word each.0) (own_uses part references (at + 2) words each.1)

pub resolved_alone : (at : Location) (first second : List Reference) (outcome : Outcome) → is_resolved outcome ≡ true
    → contents_by at first outcome ≡ contents_by at second outcome
resolved_alone at first second (Words words) own = own_words at.part first second at.number words own
resolved_alone at first second _ own = refl

either_same : (b : Bool) (first second : List Reference) → first ≡ second → (if b then first else second) ≡ second
either_same true first second same = same
either_same false first second same = refl

pub uses_none : (at : Location) (references : List Reference) (outcome : Outcome) → is_resolved outcome ≡ true → after_by at references outcome ≡ references
uses_none at references (Words words) own =
    either_same (is_placed_in at.part) (after_words at.part references at.number words) references (own_uses at.part references at.number words own)
uses_none at references _ own = refl

pub enters_none : (entry : Option Spot) (outcome : Outcome) → is_resolved outcome ≡ true → entry_by entry outcome ≡ entry
enters_none entry (Entry found) own = cc own
enters_none entry _ own = refl

module _ (first second : List AssembledLine) (same : SamePlaces first second) where
  pub same_after : (line : AssembledLine) → SamePlaces (line ∷ first) (line ∷ second)
  same_after line part p = ap (λ b. covers line part p || b) (same part p)

  word_same : (part : Part) (w : ℕ) → has_word first part w ≡ has_word second part w
  word_same part w = rw (same part (2 * w), same part (2 * w + 1)) refl

  words_same : (part : Part) → words_in first part ≡ words_in second part
  words_same part = count_same (has_word second part) (has_word first part) 0 part_words (λ w le. word_same part w)

  count_is : word_count first ≡ word_count second
  count_is = rw (words_same part.Relocatable, words_same part.Absolute) refl

abbrev room_of : ℕ → Bool → AssembledLine → Result AssembledLine AsmCause
room_of count overlap line = if nat_lt 32768 count then Err Overflow else if overlap then Err Overlap else Ok line

pub room_same : (first second : List AssembledLine) → SamePlaces first second → (line : AssembledLine) → with_room first line ≡ with_room second line
room_same first second same line =
    ap (λ count. room_of count (overlaps first line) line) (count_is (line ∷ first) (line ∷ second) (same_after first second same line))
    ∙ ap (λ b. room_of (word_count (line ∷ second)) b line)
    (any_same (is_placed first line.at.part) (is_placed second line.at.part) line.at.number (bytes_in line.outcome) (λ p. same line.at.part p))

pub resolved_same : (first second lines : List AssembledLine) → SamePlaces first second → AreAllResolved first lines → AreAllResolved second lines
resolved_same first second [] same all = tt
resolved_same first second (line ∷ lines) same all = (
  record { room = sym (room_same first second same line) ∙ all.0.room; is_resolved = all.0.is_resolved },
  resolved_same (line ∷ first) (line ∷ second) lines (same_after first second same line) all.1,
)

-- a line that has room overlaps no other
room_apart : (full overlap : Bool) (line : AssembledLine) → (if full then Err Overflow else if overlap then Err Overlap else Ok line) ≡ Ok line → overlap ≡ false
room_apart false false line e = refl
room_apart _ _ line e = cc e

each_free : (f : ℕ → Bool) (from n p : ℕ) → any_from f from n ≡ false → from ≤ p → p < from + n → f p ≡ false
each_free f from zero p free ge lt = absurd (omega (arith, ge, lt))
each_free f from (suc n) p free ge lt =
    let parts = or_parts (f from) (any_from f (from + 1) n) free in
    elim (cases_lt from p) [
      | inl less ↦ each_free f (from + 1) n p parts.1 (omega arith) (omega arith)
      | inr most ↦ let same : from ≡ p = omega arith in ap f (sym same) ∙ parts.0
    ]

module _ (references : List Reference) (done : List AssembledLine) (held line : AssembledLine) (fills : FillsPlace held line) where
  pub covers_same : (part : Part) (p : ℕ) → covers held part p ≡ covers line part p
  covers_same part p = rw (fills.at, fills.size) refl

  pub places_same : SamePlaces (held ∷ done) (line ∷ done)
  places_same part p = rw (covers_same part p) refl

  -- what is at a place once the line is there
  abbrev new_at : Part → ℕ → Option Content → Option Content
  new_at part p other = if covers line part p then slice_get (contents references done line) (p - line.at.number) else other

  abbrev IsSwapped : List AssembledLine → List AssembledLine → Type 0
  IsSwapped old new = (part : Part) (p : ℕ) → content_at references new part p ≡ new_at part p (content_at references old part p)

  abbrev Has : List AssembledLine → Type 0
  Has old = (part : Part) (p : ℕ) → covers held part p ≡ true → is_placed old part p ≡ true

  first_by : (part : Part) (p : ℕ) (b : Bool) → covers line part p ≡ b
      → content_at references (line ∷ done) part p ≡ new_at part p (content_at references (held ∷ done) part p)
  first_by part p true e = chosen _ true _ _ e ∙ sym (chosen _ true _ _ e)
  first_by part p false e =
      chosen _ false _ _ e
      ∙ (sym (chosen (covers held part p) false (slice_get (contents references done held) (p - held.at.number)) (content_at references done part p) (covers_same part p ∙ e))
      ∙ sym (chosen (covers line part p) false (slice_get (contents references done line) (p - line.at.number)) (content_at references (held ∷ done) part p) e))

  module _ (old new : List AssembledLine) (swapped : IsSwapped old new) (has : Has old) (found : AssembledLine) (after_it : IsResolvedAfter old found) where
    free : overlaps old found ≡ false
    free = room_apart (nat_lt 32768 (word_count (found ∷ old))) (overlaps old found) found after_it.room

    apart_by : (part : Part) (p : ℕ) (b : Bool) → covers line part p ≡ b → covers found part p ≡ true → covers line part p ≡ false
    apart_by part p false e there = e
    apart_by part p true e there =
        let ends =
        and_parts (same_part found.at.part part && nat_le found.at.number p)
        (nat_lt p (found.at.number + bytes_in found.outcome)) there in
        let tests = and_parts (same_part found.at.part part) (nat_le found.at.number p) ends.0 in
        let ge : found.at.number ≤ p = grind (arith, nat_tests, tests.1) in
        let lt : p < found.at.number + bytes_in found.outcome = grind (arith, nat_tests, ends.1) in
        let none : is_placed old found.at.part p ≡ false = each_free (is_placed old found.at.part) found.at.number (bytes_in found.outcome) p free ge lt in
        let same : are_same found.at.part part = part_same found.at.part part tests.0 in
        let is : is_placed old part p ≡ true = has part p (covers_same part p ∙ e) in
        let not_is : is_placed old part p ≡ false = ap (λ (part : Part). is_placed old part p) (sym same) ∙ none in
        cc (is, not_is)

    next_by : (part : Part) (p : ℕ) (b : Bool) → covers found part p ≡ b
        → content_at references (found ∷ new) part p ≡ new_at part p (content_at references (found ∷ old) part p)
    next_by part p true e =
        chosen _ true _ _ e
        ∙ (ap (λ (contents : List Content). slice_get contents (p - found.at.number))
        (resolved_alone found.at (references_of references new) (references_of references old) found.outcome after_it.is_resolved)
        ∙ (sym (chosen (covers found part p) true (slice_get (contents references old found) (p - found.at.number)) (content_at references old part p) e)
        ∙ sym (chosen (covers line part p) false (slice_get (contents references done line) (p - line.at.number)) (content_at references (found ∷ old) part p)
        (apart_by part p (covers line part p) refl e))))
    next_by part p false e =
        chosen _ false _ _ e
        ∙ (swapped part p
        ∙ ap (new_at part p) (sym (chosen (covers found part p) false (slice_get (contents references old found) (p - found.at.number)) (content_at references old part p) e)))

  all_swapped : (old new founds : List AssembledLine) → IsSwapped old new → Has old → AreAllResolved old founds → IsSwapped (onto old founds) (onto new founds)
  all_swapped old new [] swapped has all = swapped
  all_swapped old new (found ∷ founds) swapped has all =
      all_swapped (found ∷ old) (found ∷ new) founds (λ part p. next_by old new swapped has found all.0 part p (covers found part p) refl)
      (λ part p there. or_right (covers found part p) (is_placed old part p) (has part p there)) all.1

  swapped : (founds : List AssembledLine) → AreAllResolved (held ∷ done) founds → IsSwapped (onto (held ∷ done) founds) (onto (line ∷ done) founds)
  swapped founds all =
      all_swapped (held ∷ done) (line ∷ done) founds (λ part p. first_by part p (covers line part p) refl)
      (λ part p there. or_left (covers held part p) (is_placed done part p) there) all

  module _ (founds : List AssembledLine) (all : AreAllResolved (held ∷ done) founds) (given : List Content) (is_given : is_placed_in line.at.part ≡ true → given ≡ contents references done line) (within : line.at.number + length given ≤ 65536) where
    part_filled : (part : Part) (b : Bool) (old new : List (Option Content)) → same_part line.at.part part ≡ b → length old ≡ 65536
        → ((p : ℕ) → cell old p ≡ content_at references (onto (held ∷ done) founds) part p)
        → new ≡ (if b then put_from old line.at.number given else old)
        → (p : ℕ) → cell new p ≡ content_at references (onto (line ∷ done) founds) part p
    part_filled part true old new same full holds is p =
        let placed = part_placed line.at.part part same in
        let put = is_given placed in
        let size : length given ≡ bytes_in line.outcome = ap length put ∙ contents_length line.at (references_of references done) line.outcome in
        let covered : is_among line.at.number (length given) p ≡ covers line part p =
        ap (λ n. is_among line.at.number n p) size ∙ sym (ap (λ b. b && nat_le line.at.number p && nat_lt p (line.at.number + bytes_in line.outcome)) same) in
        ap (λ cells. cell cells p) is
        ∙ (put_cell old line.at.number given p (omega (arith, within, full))
        ∙ (chosen (is_among line.at.number (length given) p) (covers line part p) (slice_get given (p - line.at.number)) (cell old p) covered
        ∙ (ap (λ found. if covers line part p then slice_get found (p - line.at.number) else cell old p) put
        ∙ (ap (λ other. new_at part p other) (holds p) ∙ sym (swapped founds all part p)))))
    part_filled part false old new same full holds is p =
        ap (λ cells. cell cells p) is
        ∙ (holds p
        ∙ (sym (chosen (covers line part p) false (slice_get (contents references done line) (p - line.at.number)) (content_at references (onto (held ∷ done) founds) part p)
        (ap (λ b. b && nat_le line.at.number p && nat_lt p (line.at.number + bytes_in line.outcome)) same))
        ∙ sym (swapped founds all part p)))

    -- the image with the line in the place that was held for it
    pub image_filled : (old new : Image) → IsImage references (onto (held ∷ done) founds) old → IsPut line.at given old new
        → IsImage references (onto (line ∷ done) founds) new
    image_filled old new is put_there = record {
      relocatable = part_filled part.Relocatable (same_part line.at.part part.Relocatable) old.relocatable.cells.items new.relocatable.cells.items refl
          old.relocatable.size is.relocatable put_there.relocatable;
      absolute = part_filled part.Absolute (same_part line.at.part part.Absolute) old.absolute.cells.items new.absolute.cells.items refl
          old.absolute.size is.absolute put_there.absolute;
    }

pub onto_same : (first second lines : List AssembledLine) → SamePlaces first second → SamePlaces (onto first lines) (onto second lines)
onto_same first second [] same = same
onto_same first second (line ∷ lines) same = onto_same (line ∷ first) (line ∷ second) lines (same_after first second same line)

-- whether a line has room where a place was held for it
filled_by : (full overlap : Bool) (held line : AssembledLine)
    → (if full then Err Overflow else if overlap then Err Overlap else Ok line)
    ≡ ((if full then Err Overflow else if overlap then Err Overlap else Ok held) >>= λ held. Ok line)
filled_by false true held line = refl
filled_by _ _ held line = refl

module _ (done : List AssembledLine) (held line : AssembledLine) (fills : FillsPlace held line) where
  over_same : overlaps done line ≡ overlaps done held
  over_same = rw (fills.at, fills.size) refl

  pub room_filled : with_room done line ≡ (with_room done held >>= λ held. Ok line)
  room_filled =
      ap (λ count. room_of count (overlaps done line) line) (sym (count_is (held ∷ done) (line ∷ done) (places_same [] done held line fills)))
      ∙ (ap (λ b. room_of (word_count (held ∷ done)) b line) over_same
      ∙ filled_by (nat_lt 32768 (word_count (held ∷ done))) (overlaps done held) held line)

-- a line that has no room is refused for that
abbrev pub are_causes : AsmCause → AsmCause → Type 0
are_causes a b = a ≡ b

room_refused : (full overlap : Bool) (line : AssembledLine) (cause : AsmCause) → (if full then Err Overflow else if overlap then Err Overlap else Ok line) ≡ Err cause
    → are_causes Overflow cause ⊎ are_causes Overlap cause
room_refused true overlap line cause e = inl (cc e)
room_refused false true line cause e = inr (cc e)
room_refused false false line cause e = cc e

pub no_room : (earlier : List AssembledLine) (line : AssembledLine) (cause : AsmCause) → with_room earlier line ≡ Err cause → are_causes Overflow cause ⊎ are_causes Overlap cause
no_room earlier line cause e = room_refused (nat_lt 32768 (word_count (line ∷ earlier))) (overlaps earlier line) line cause e

room_is : (full overlap : Bool) (line found : AssembledLine) → (if full then Err Overflow else if overlap then Err Overlap else Ok line) ≡ Ok found → line ≡ found
room_is false false line found e = cc e
room_is _ _ line found e = cc e

pub has_own_room : (earlier : List AssembledLine) (line found : AssembledLine) → with_room earlier line ≡ Ok found → with_room earlier line ≡ Ok line
has_own_room earlier line found e =
    e ∙ ap Ok (sym (room_is (nat_lt 32768 (word_count (line ∷ earlier))) (overlaps earlier line) line found e))
