-- A builder after a line that says nothing.
use Rattle.std.proofs.Common.{◌≡◌, ℕ, ◌+◌, ◌*◌, ◌≤◌, Bool, true, false, List, [], ◌∷◌, Some, None, Ok, Err, refl, sym, ap, ◌∙◌, arith}
use Rattle.std.specs.Prelude.{Option, IsSome, max, nat_le, nat_lt, ◌&&◌, ◌||◌, if◌then◌else◌}
use Rattle.std.proofs.lemmas.Bool.Decides.{nat_tests}
use Rattle.source_defs.specs.Orders.{onto}
use Rattle.source_defs.specs.Fields.{fields, no_fields}
use Rattle.expression_defs.specs.Expression.{Value}
use Rattle.object_defs.specs.Modules.{Reference}
use Rattle.asm_defs.specs.declared.causes.AsmCause.TheVariants.{Overflow, Overlap}
use Rattle.asm_defs.specs.declared.location.Location.{Location}
use Rattle.asm_defs.specs.declared.location.Part.{Part}
use Rattle.asm_defs.specs.declared.location.Part.TheVariants as part
use Rattle.asm_defs.specs.Locations.{Line, location, reached, relocatable, after, is_in_part}
use Rattle.asm_defs.specs.Statements.{Nothing, statement_in}
use Rattle.asm_defs.specs.FirstChecks.{EarlierLines, Checked, checked, parsed, moved, stays_at}
use Rattle.asm_defs.specs.SecondChecks as second
use Rattle.asm_defs.specs.Memory.{AssembledLine, covers, is_placed, has_word, words_in, word_count, part_words, content_at, same_part, overlaps}
use Rattle.asm_defs.specs.Modules.{with_room}
use Rattle.module_image.specs.ResolvedLines.{AreAllResolved}
use Rattle.module_image.specs.Images.{IsImage}
use Rattle.module_image.specs.declared.image.Image.{Image}
use Rattle.module_image.proofs.TableLaws.{count_same, count_none}
use Rattle.module_image.proofs.RoomLaws.{has_room}
use Rattle.asm_core.specs.Building.{ImageOf}

-- what the first checks leave of a line that says nothing
abbrev pub nothing_at : Location → Checked
nothing_at here = record { label = None; statement = Nothing; move = stays_at here 0 }

pub here_again : (here : Location) → after here 0 ≡ here
here_again here =
    let same : here.number + 0 ≡ here.number = omega arith in
    ap (λ number. record { part = here.part; number = number }) same

pub nothing_parsed : (before : EarlierLines) (text : List ℕ) → fields text ≡ Ok no_fields → is_in_part before.location ≡ true
    → checked before text ≡ Ok (nothing_at before.location)
unfolding parsed moved statement_in
nothing_parsed before text none here =
    let inside : is_in_part (after before.location 0) ≡ true = ap is_in_part (here_again before.location) ∙ here in
    rw (none, inside) refl

-- a line without an outcome covers no place
module _ (at : Location) where
  abbrev pub nothing_placed : AssembledLine
  nothing_placed = record { at = at; outcome = second.Nothing }

  not_between : (same : Bool) (a p : ℕ) → (same && nat_le a p && nat_lt p (a + 0)) ≡ false
  not_between false a p = refl
  not_between true a p = by (nat_le a p) refl
    where
      by : (b : Bool) → nat_le a p ≡ b → (b && nat_lt p (a + 0)) ≡ false
      by false is = refl
      by true is =
          let le : a ≤ p = grind (arith, nat_tests, is) in
          grind (arith, nat_tests, le)

  covers_none : (part : Part) (p : ℕ) → covers nothing_placed part p ≡ false
  covers_none part p = not_between (same_part at.part part) at.number p

  module _ (earlier : List AssembledLine) where
    placed_same : (part : Part) (p : ℕ) → is_placed (nothing_placed ∷ earlier) part p ≡ is_placed earlier part p
    placed_same part p = ap (λ b. b || is_placed earlier part p) (covers_none part p)

    word_same : (part : Part) (w : ℕ) → has_word (nothing_placed ∷ earlier) part w ≡ has_word earlier part w
    word_same part w = rw (covers_none part (2 * w), covers_none part (2 * w + 1)) refl

    words_same : (part : Part) → words_in (nothing_placed ∷ earlier) part ≡ words_in earlier part
    words_same part = count_same (has_word earlier part) (has_word (nothing_placed ∷ earlier) part) 0 part_words (λ w le. word_same part w)

    count_same_here : word_count (nothing_placed ∷ earlier) ≡ word_count earlier
    count_same_here = rw (words_same part.Relocatable, words_same part.Absolute) refl

    pub room_for_nothing : word_count earlier ≤ 32768 → with_room earlier nothing_placed ≡ Ok nothing_placed
    room_for_nothing most = has_room earlier nothing_placed (omega (arith, most, count_same_here)) refl

    content_same : (references : List Reference) (part : Part) (p : ℕ) → content_at references (nothing_placed ∷ earlier) part p
        ≡ content_at references earlier part p
    content_same references part p = rw (covers_none part p) refl

    image_same : (references : List Reference) (image : Image) → IsImage references earlier image → IsImage references (nothing_placed ∷ earlier) image
    image_same references image is = record {
      relocatable = λ p. is.relocatable p ∙ sym (content_same references part.Relocatable p);
      absolute = λ p. is.absolute p ∙ sym (content_same references part.Absolute p);
    }

    pub image_still : (image : Option Image) → IsSome image → ImageOf earlier image → ImageOf (nothing_placed ∷ earlier) image
    image_still None some is = cc some
    image_still (Some image) some is = λ references. image_same references image (is references)

-- the lines that stand have no more words than a module may have
most_of : (words : ℕ) (over : Bool) (line : AssembledLine) → (if nat_lt 32768 words then Err Overflow else if over then Err Overlap else Ok line) ≡ Ok line
    → words ≤ 32768
most_of words over line e = by (nat_lt 32768 words) refl e
  where
    by : (full : Bool) → nat_lt 32768 words ≡ full → (if full then Err Overflow else if over then Err Overlap else Ok line) ≡ Ok line → words ≤ 32768
    by true is e = cc e
    by false is e = grind (arith, nat_tests, is)

most_words : (earlier founds : List AssembledLine) → word_count earlier ≤ 32768 → AreAllResolved earlier founds → word_count (onto earlier founds) ≤ 32768
most_words earlier [] most resolved = most
most_words earlier (found ∷ founds) most resolved =
    most_words (found ∷ earlier) founds (most_of (word_count (found ∷ earlier)) (overlaps earlier found) found resolved.0.room) resolved.1

no_words : word_count [] ≤ 32768
no_words = omega (
  arith,
  count_none (has_word [] part.Relocatable) 0 part_words (λ w. refl),
  count_none (has_word [] part.Absolute) 0 part_words (λ w. refl),
)

pub still_room : (at : Location) (founds : List AssembledLine) → AreAllResolved [] founds
    → with_room (onto [] founds) (nothing_placed at) ≡ Ok (nothing_placed at)
still_room at founds resolved = room_for_nothing at (onto [] founds) (most_words [] founds no_words resolved)

-- no location is after the highest that was reached
within_reach : (lines : List Line) → relocatable (location lines) ≤ reached lines
within_reach [] = omega arith
within_reach (line ∷ lines) = omega arith

pub still_reached : (lines : List Line) (at : Location) → at ≡ location lines → max (reached lines) (relocatable at) ≡ reached lines
still_reached lines at same =
    let le = within_reach lines in
    let here : relocatable at ≡ relocatable (location lines) = ap relocatable same in
    omega (arith, le, here)

pub nothing_comes : (look : List ℕ → Option Value) (at : Location) → second.outcome look at Nothing ≡ Ok second.Nothing
unfolding second.outcome
nothing_comes look at = refl
